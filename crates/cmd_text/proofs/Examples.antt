-- Texts with the reader's answers.
use Rattle.std.proofs.Common.{◌≡◌, ℕ, [], ◌∷◌, ◌++◌, Some, None, Result, Err, refl}
use Rattle.std.specs.Prelude.{codes, replicate}
use Rattle.cmd_tree.specs.declared.tree.Dir.TheVariants.{Input, Output}
use Rattle.cmd_tree.specs.declared.tree.Proc.{Proc}
use Rattle.cmd_tree.specs.Tree.{TItem, TSeq, TBurst, Done, Then}
use Rattle.cmd_text.specs.declared.file.Factor.TheVariants.{Own, Named}
use Rattle.cmd_text.specs.Fault.{Fault, BadByte, BadToken, Unexpected, NameTooLong, TooDeep}
use Rattle.cmd_text.specs.Mirror.Machine.{mark_of}
use Rattle.cmd_text.specs.Mirror.Reader.{rename_of}
use Rattle.cmd_text.specs.Mirror.Reading.{Standing, answer}
use Rattle.cmd_text.proofs.ReadExactly.{ended_well}

abbrev Answer : Type 0
Answer = Result Standing Fault

abbrev refuses : Fault → Answer
refuses f = Err f

abbrev in_at : ℕ → TItem
in_at n = TBurst (mark_of n Input ∷ [])

abbrev out_at : ℕ → TItem
out_at n = TBurst (mark_of n Output ∷ [])

abbrev repeated : TSeq → Proc
repeated s = record { lead = None; body = Some s }

empty : answer [] ≡ refuses (Unexpected 0)
empty = refl

wire : answer (codes "main := pref*[a?;b!].") ≡ ended_well (codes "a" ∷ codes "b" ∷ []) (record { name = None; at = 0; factors = Own (repeated (Then (in_at 0) (Then (out_at 1) Done))) ∷ [] } ∷ [])
wire = refl

cut_short : answer (codes "main := pref*[a?;") ≡ refuses (Unexpected 17)
cut_short = refl

one_in_brackets : answer (codes "main := pref*[(a?)].") ≡ refuses (Unexpected 17)
one_in_brackets = refl

commented : answer (codes "# a wire|" ++ 10 ∷ codes "main := pref*[a?].") ≡ ended_well (codes "a" ∷ []) (record { name = None; at = 10; factors = Own (repeated (Then (in_at 0) Done)) ∷ [] } ∷ [])
commented = refl

no_equals : answer (codes "main : pref*[a?].") ≡ refuses (BadToken 5)
no_equals = refl

digit_first : answer (codes "main := pref*[1a?].") ≡ refuses (BadToken 14)
digit_first = refl

long_name : answer (codes "main := pref*[a23456789012345678901234567890123?].") ≡ refuses (NameTooLong 14)
long_name = refl

strange : answer (codes "main := pref*[a?" ++ 200 ∷ codes "].") ≡ refuses (BadByte 16)
strange = refl

in_comment : answer (codes "#ab" ++ 200 ∷ []) ≡ refuses (BadByte 3)
in_comment = refl

first_of_two : answer (codes "let let &") ≡ refuses (Unexpected 4)
first_of_two = refl

same_choice : answer (codes "main := pref*[(a?|b?)].") ≡ answer (codes "main := pref*[a?|b? ].")
same_choice = refl

bursts : answer (codes "main := pref*[(a?||b?);c!].") ≡ ended_well (codes "a" ∷ codes "b" ∷ codes "c" ∷ []) (record { name = None; at = 0; factors = Own (repeated (Then (TBurst (mark_of 0 Input ∷ mark_of 1 Input ∷ [])) (Then (out_at 2) Done))) ∷ [] } ∷ [])
bursts = refl

renamed : answer (codes "let w := pref*[a?;b!]. main := w[x/a,y/b]||w[y/a,z/b].") ≡ ended_well (codes "a" ∷ codes "b" ∷ [])
    (record { name = Some (codes "w"); at = 4; factors = Own (repeated (Then (in_at 0) (Then (out_at 1) Done))) ∷ [] }
    ∷ record { name = None; at = 23; factors = Named (record { name = codes "w"; at = 31; renames = rename_of (codes "x") 33 (codes "a") 35 ∷ rename_of (codes "y") 37 (codes "b") 39 ∷ [] }) ∷ Named (record { name = codes "w"; at = 43; renames = rename_of (codes "y") 45 (codes "a") 47 ∷ rename_of (codes "z") 49 (codes "b") 51 ∷ [] }) ∷ [] }
    ∷ [])
renamed = refl

too_deep : answer (codes "main := pref*[" ++ replicate 65 40) ≡ refuses (TooDeep 78)
too_deep = refl

deep_enough : answer (codes "main := pref*[" ++ replicate 64 40) ≡ refuses (Unexpected 78)
deep_enough = refl
