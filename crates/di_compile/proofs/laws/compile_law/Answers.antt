use Rattle.std.proofs.Common.{◌≡◌, List, refl, sym, ap, ◌∙◌, arith}
use Rattle.cmd_tree.specs.declared.tree.Proc.{Proc}
use Rattle.di_grammar.proofs.Answering.{broken_not_admitted, broken_one}
use Rattle.count_sum.specs.declared.counts.Basis.{Basis}
use Rattle.di_compile.specs.declared.refusal.CompileRefusal.{CompileRefusal}
use Rattle.di_compile.specs.declared.refusal.CompileRefusal.TheVariants.{Broken, NotThisForm, TooManyComponents, NoMemory}
use Rattle.di_compile.specs.Compiling.{IsBuilt, IsRefused}
use Rattle.di_compile.proofs.laws.compile_law.Goals as goal

only_memory : (basis : Basis) (ps : List Proc) → IsBuilt basis ps → (r : CompileRefusal) → IsRefused basis ps r → r ≡ NoMemory
only_memory basis ps built (Broken b) is = absurd (broken_not_admitted ps b is built.admitted)
only_memory basis ps built NotThisForm is = absurd (is.1 built.form)
only_memory basis ps built (TooManyComponents n) (admitted, form, more, e) = absurd (omega (arith, built.few, more, e))
only_memory basis ps built NoMemory is = refl

one_reason : (basis : Basis) (ps : List Proc) (a b : CompileRefusal) → IsRefused basis ps a → IsRefused basis ps b → (a ≡ NoMemory → ⊥) → (b ≡ NoMemory → ⊥) → a ≡ b
one_reason basis ps (Broken a) (Broken b) x y m n = ap Broken (broken_one ps a b x y)
one_reason basis ps (Broken a) NotThisForm x y m n = absurd (broken_not_admitted ps a x y.0)
one_reason basis ps (Broken a) (TooManyComponents k) x y m n = absurd (broken_not_admitted ps a x y.0)
one_reason basis ps (Broken a) NoMemory x y m n = absurd (n refl)
one_reason basis ps NotThisForm (Broken b) x y m n = absurd (broken_not_admitted ps b y x.0)
one_reason basis ps NotThisForm NotThisForm x y m n = refl
one_reason basis ps NotThisForm (TooManyComponents k) x y m n = absurd (x.1 y.1)
one_reason basis ps NotThisForm NoMemory x y m n = absurd (n refl)
one_reason basis ps (TooManyComponents j) (Broken b) x y m n = absurd (broken_not_admitted ps b y x.0)
one_reason basis ps (TooManyComponents j) NotThisForm x y m n = absurd (y.1 x.1)
one_reason basis ps (TooManyComponents j) (TooManyComponents k) x y m n = ap TooManyComponents (x.3 ∙ sym y.3)
one_reason basis ps (TooManyComponents j) NoMemory x y m n = absurd (n refl)
one_reason basis ps NoMemory b x y m n = absurd (m refl)

pub returns-clause-built : goal.returns-clause-built
returns-clause-built c = only_memory

pub returns-clause-one : goal.returns-clause-one
returns-clause-one c = one_reason
