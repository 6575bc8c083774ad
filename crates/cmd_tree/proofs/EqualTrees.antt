-- When trees are equal.
use Rattle.std.proofs.Common.{◌≡◌, ℕ, ◌<◌, List, [], ◌∷◌, length, get_or, sym, ap, ◌∙◌, rules}
use Rattle.std.proofs.lemmas.List.{get_or_default}
use Rattle.std.specs.Bool.{Decides}
use Rattle.cmd_tree.specs.declared.tree.Mark.{Mark}
use Rattle.cmd_tree.specs.declared.tree.Item.{Item}
use Rattle.cmd_tree.specs.declared.tree.Item.TheVariants.{Burst, Alt}
use Rattle.cmd_tree.specs.Tree.{TSeq}
use Rattle.cmd_tree.specs.View.{item_of, seq_of, seqs_of}
use Rattle.cmd_tree.specs.contracts.tree.MarkPartialEq.TheImpl.{eq-value}

pub marks_decide : (m n : Mark) → Decides (eq-value.it m n) (m ≡ n)
marks_decide m n = search rules

seqs_inj : (ss ts : List TSeq) → seqs_of ss ≡ seqs_of ts → ss ≡ ts
seqs_inj [] [] e = cc
seqs_inj [] (t ∷ ts) e = absurd (cc)
seqs_inj (s ∷ ss) [] e = absurd (cc)
seqs_inj (s ∷ ss) (t ∷ ts) e = let rest : seqs_of ss ≡ seqs_of ts = cc in let more = seqs_inj ss ts rest in let first : s ≡ t = cc in cc

item_inj : (i j : Item) → item_of i ≡ item_of j → i ≡ j
item_inj (Burst ms) (Burst ns) e = cc
item_inj (Burst ms) (Alt ts) e = absurd (cc)
item_inj (Alt ss) (Burst ns) e = absurd (cc)
item_inj (Alt ss) (Alt ts) e = let rest : seqs_of ss ≡ seqs_of ts = cc in ap Alt (seqs_inj ss ts rest)

pub seq_inj : (is js : List Item) → seq_of is ≡ seq_of js → is ≡ js
seq_inj [] [] e = cc
seq_inj [] (j ∷ js) e = absurd (cc)
seq_inj (i ∷ is) [] e = absurd (cc)
seq_inj (i ∷ is) (j ∷ js) e =
    let rest : seq_of is ≡ seq_of js = cc in
    let more = seq_inj is js rest in
    let first : item_of i ≡ item_of j = cc in
    let same = item_inj i j first in cc

-- the same place of equal lists
pub same_at : {A : Type 0} (xs ys : List A) (i : ℕ) (x y : A) → xs ≡ ys → i < length xs → x ≡ get_or xs i x → y ≡ get_or ys i y → x ≡ y
same_at xs ys i x y e h at_x at_y = at_x ∙ get_or_default xs i x y h ∙ ap (λ zs. get_or zs i y) e ∙ sym at_y
