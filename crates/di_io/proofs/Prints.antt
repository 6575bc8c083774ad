-- Texts printed one after another, and what a printer has of them.
use Rattle.std.proofs.Common.{◌≡◌, ℕ, ◌≤◌, Bool, true, false, List, [], ◌++◌, Option, refl, ap, ◌∙◌, sym, append_assoc, arith, subst, OnErr}
use Rattle.std.proofs.lemmas.List.{append-nil}
use Rattle.std.specs.Prelude.{Result}
use Rattle.di_io.specs.declared.PutFault.{PutFault}
use Rattle.di_io.specs.Faults.{Rose}
use Rattle.di_io.specs.Written.{Gains, GainsFront}
use Rattle.di_io.specs.Printing.{Printing, prints}
use Rattle.di_io.specs.Mirror.Printer.{Has}
use Rattle.di_io.proofs.Rises.{rose_after}
use Rattle.di_io.proofs.Puts.{gains_then, front_then, front_more}

pub prints_twice : (p : Printing) (s t : List ℕ) → prints (prints p s) t ≡ prints p (s ++ t)
unfolding prints
prints_twice p s t = ap (λ (u : List ℕ). record p { said = u }) (append_assoc p.said s t)

pub prints_none : (p : Printing) → prints p [] ≡ p
unfolding prints
prints_none p = ap (λ (u : List ℕ). record p { said = u }) (append-nil p.said)

-- pieces that are printed one after another, some of them empty
pub ruleset printing = (prints_twice, prints_none)

-- what is still to be printed, and its first piece
pub prints_rest : (p q r : Printing) (now piece rest : List ℕ) → now ≡ piece ++ rest → q ≡ prints p piece
    → prints p now ≡ r → prints q rest ≡ r
prints_rest p q r now piece rest opened printed whole =
    ap (λ (a : Printing). prints a rest) printed ∙ prints_twice p piece rest
    ∙ ap (prints p) (sym opened) ∙ whole

-- more is held
pub has_more : (p : Printing) (now : Option (List ℕ)) (count : ℕ) (held text : List ℕ) (failed : Bool)
    → Has p now count held failed → Has (prints p text) now count (held ++ text) failed
unfolding prints
has_more p now count held text failed h = record {
  later = h.later;
  kept = λ e.
      let k = h.kept e in
      record {
        put = k.put;
        gained = k.gained;
        joins = sym (append_assoc k.put held text) ∙ ap (λ (v : List ℕ). v ++ text) k.joins;
      };
  rose = h.rose;
  front = λ e. front_more p.written now p.said text (h.front e);
}

-- what was held was put
pub has_put : (p : Printing) (old now : Option (List ℕ)) (before count : ℕ) (piece : List ℕ)
    → Has p old before piece false → Gains old now piece → before ≤ count → Has p now count [] false
has_put p old now before count piece h g later =
    let k = h.kept refl in
    record {
      later = omega arith;
      kept = λ _. record {
        put = k.put ++ piece;
        gained = gains_then p.written old now k.put piece k.gained g;
        joins = append-nil (k.put ++ piece) ∙ k.joins;
      };
      rose = λ e. absurd (cc);
      front = λ e. absurd (cc);
    }

-- it could not be put
pub has_failed : (p : Printing) (old now : Option (List ℕ)) (before count : ℕ) (piece : List ℕ)
    → Has p old before piece false → GainsFront old now piece → before ≤ count → Rose before count
    → Has p now count [] true
has_failed p old now before count piece h g later rose =
    let k = h.kept refl in
    record {
      later = omega arith;
      kept = λ e. absurd (cc);
      rose = λ _. rose_after p.faults before count h.later rose;
      front = λ _.
          let P : List ℕ → Type 0 = λ v. GainsFront p.written now v in
          subst P k.joins (front_then p.written old now k.put piece k.gained g);
    }

-- a printing, with this text added to what was said
pub said_next : (written : Option (List ℕ)) (faults sink : ℕ) (before text after : List ℕ)
    → after ≡ before ++ text → ◌≡◌ {A = Printing} (record { written = written; faults = faults; sink = sink; said = after })
    (prints (record { written = written; faults = faults; sink = sink; said = before }) text)
unfolding prints
said_next written faults sink before text after e =
    ap (λ (u : List ℕ). record { written = written; faults = faults; sink = sink; said = u }) e

-- the text is held behind what is held
pub has_next : (p q : Printing) (now : Option (List ℕ)) (count : ℕ) (held text more : List ℕ) (failed : Bool)
    → q ≡ prints p text → more ≡ held ++ text → Has p now count held failed → Has q now count more failed
has_next p q now count held text more failed same joined h =
    let said : Has (prints p text) now count (held ++ text) failed =
    has_more p now count held text failed h in
    rw (same, joined) said

-- What `finish` says of a front, said from the start of the sink.
pub front_at : (r : Result (Unit {0}) PutFault) (a b c d : Option (List ℕ)) (t u : List ℕ)
    → OnErr r (GainsFront a b t) → a ≡ c → b ≡ d → t ≡ u → OnErr r (GainsFront c d u)
front_at r a b c d t u h e f same =
    let P : List ℕ → Type 0 = λ v. OnErr r (GainsFront a b v) in
    let Q : Option (List ℕ) → Type 0 = λ v. OnErr r (GainsFront a v u) in
    let R : Option (List ℕ) → Type 0 = λ v. OnErr r (GainsFront v d u) in
    subst R e (subst Q f (subst P same h))
