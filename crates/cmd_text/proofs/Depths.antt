-- How many brackets the code holds open.
use Rattle.std.proofs.Common.{◌≡◌, ℕ, ◌+◌, ◌≤◌, ◌<◌, Bool, true, false, List, [], ◌∷◌, length, Option, refl, sym, ◌∙◌, ap, arith}
use Rattle.std.proofs.lemmas.Bool.{ltb-true, ltb-false, leb-true, leb-false}
use Rattle.cmd_text.specs.declared.draft.Level.{Level}
use Rattle.cmd_tree.specs.Tree.{TSeq}
use Rattle.cmd_tree.specs.View.{seqs_of, seq_of}
use Rattle.cmd_text.specs.Mirror.Machine.{Ctx, Inside, open_brackets_in}
use Rattle.cmd_text.specs.Mirror.Drafts.{ctx_from, base_of}

depth_from : (k : Ctx) (ls : List Level) → open_brackets_in (ctx_from k ls) ≡ open_brackets_in k + length ls
depth_from k [] = omega arith
depth_from k (l ∷ ls) = let h : open_brackets_in (ctx_from (Inside k (seqs_of l.alts) (seq_of l.items)) ls) ≡ (open_brackets_in k + 1) + length ls = depth_from (Inside k (seqs_of l.alts) (seq_of l.items)) ls in omega arith

base_depth : (b : Bool) (o : Option TSeq) → open_brackets_in (base_of b o) ≡ 0
base_depth false o = refl
base_depth true o = refl

pub outer_depth : (b : Bool) (o : Option TSeq) (ls : List Level) → open_brackets_in (ctx_from (base_of b o) ls) ≡ length ls
outer_depth b o ls = omega (arith, depth_from (base_of b o) ls, base_depth b o)

pub ruleset depths = (outer_depth, ltb-true, ltb-false, leb-true, leb-false)
