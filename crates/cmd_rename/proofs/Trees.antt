-- Sequences and choices under other symbols, item by item.
use Rattle.std.proofs.Common.{◌≡◌, ℕ, List, [], ◌∷◌, ◌++◌, map, refl, sym, ap, ◌∙◌}
use Rattle.cmd_tree.specs.declared.tree.Item.{Item}
use Rattle.cmd_tree.specs.declared.tree.Mark.{Mark}
use Rattle.cmd_tree.specs.Tree.{TItem, TSeq, Or, Done, Then}
use Rattle.cmd_tree.specs.View.{item_of, seq_of, seqs_of}
use Rattle.cmd_rename.specs.Renaming.{ren_seq, ren_item, ren_seqs}
use Rattle.cmd_rename.specs.Symbols.{symbols_in}

abbrev seq_by : List TItem → TSeq
seq_by [] = Done
seq_by (i ∷ is) = Then i (seq_by is)

seq_mapped : (is : List Item) → seq_of is ≡ seq_by (map item_of is)
seq_mapped [] = refl
seq_mapped (i ∷ is) = ap (λ s. Then (item_of i) s) (seq_mapped is)

seq_renamed : (f : ℕ → ℕ) (is : List TItem) → ren_seq f (seq_by is) ≡ seq_by (map (ren_item f) is)
seq_renamed f [] = refl
seq_renamed f (i ∷ is) = ap (λ s. Then (ren_item f i) s) (seq_renamed f is)

pub renamed_seq : (f : ℕ → ℕ) (is js : List Item) → map item_of js ≡ map (ren_item f) (map item_of is) → seq_of js ≡ ren_seq f (seq_of is)
renamed_seq f is js h = seq_mapped js ∙ ap seq_by h ∙ sym (seq_renamed f (map item_of is)) ∙ ap (ren_seq f) (sym (seq_mapped is))

pub renamed_seqs : (f : ℕ → ℕ) (ss : List TSeq) → seqs_of (map (ren_seq f) ss) ≡ ren_seqs f (seqs_of ss)
renamed_seqs f [] = refl
renamed_seqs f (s ∷ ss) = ap (λ u. Or (ren_seq f s) u) (renamed_seqs f ss)

pub symbols_both : (ms ks : List Mark) → symbols_in (ms ++ ks) ≡ symbols_in ms ++ symbols_in ks
symbols_both [] ks = refl
symbols_both (m ∷ ms) ks = ap (λ u. m.sym.0 ∷ u) (symbols_both ms ks)
