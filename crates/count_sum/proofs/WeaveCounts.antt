-- What is counted of a weave, by how often symbols stand in the lists of its processes.
use Rattle.std.specs.Prelude.{nat_eq, if◌then◌else◌, not}
use Rattle.std.specs.List.{range_with_len}
use Rattle.std.proofs.Common.{◌≡◌, inl, inr, ℕ, ◌+◌, ◌<◌, Bool, true, false, ◌&&◌, ◌||◌, List, [], ◌∷◌, ◌++◌, length, map, get_or, refl, sym, ap, ◌∙◌, arith, eq-eqb, ne_eqb}
use Rattle.std.proofs.lemmas.Bool.{cases_eq}
use Rattle.std.proofs.lemmas.List.FromFn.{get_or-map-range_with_len, length-map-range_with_len}
use Rattle.cmd_tree.specs.declared.tree.Mark.{Mark}
use Rattle.cmd_tree.specs.declared.tree.Proc.{Proc}
use Rattle.cmd_tree.specs.declared.command.Command.{Command}
use Rattle.cmd_tree.specs.Limits.{marks_of_proc, marks_of_all}
use Rattle.cmd_tree.specs.Lists.{is_in}
use Rattle.cmd_tree.specs.Marks.{is_output}
use Rattle.cmd_tree.specs.Meaning.{has_symbol}
use Rattle.cmd_rename.specs.Symbols.{put, put_each, symbols_in}
use Rattle.net_core.specs.Specs.{gives_symbol, outs_of}
use Rattle.net_core.specs.declared.spec.NodeSpec.TheVariants.{Cmd}
use Rattle.shape_parts.proofs.Keyed.{map_same}
use Rattle.di_grammar.specs.Outputs.{output_in, out_of}
use Rattle.di_grammar.specs.Sums.{grants, standing, made, meeting}
use Rattle.count_sum.specs.Mirror.Lists.{times, joined}
use Rattle.count_sum.specs.Mirror.Weaves.{own, own_made, meeting_by}

abbrev bit : Bool → ℕ
bit b = if b then 1 else 0

times_both : (xs ys : List ℕ) (n : ℕ) → times (xs ++ ys) n ≡ times xs n + times ys n
times_both [] ys n = omega arith
times_both (x ∷ xs) ys n = omega (arith, times_both xs ys n)

eq_flip : (a b : ℕ) → nat_eq a b ≡ nat_eq b a
eq_flip a b = elim (cases_eq a b) [ inl e ↦ eq-eqb a b e ∙ sym (eq-eqb b a (sym e)) | inr d ↦ ne_eqb a b d ∙ sym (ne_eqb b a (λ e. d (sym e))) ]

in_both : (a : ℕ) (xs ys : List ℕ) → is_in a (xs ++ ys) ≡ (is_in a xs || is_in a ys)
in_both a [] ys = refl
in_both a (x ∷ xs) ys = ap (λ b. nat_eq a x || b) (in_both a xs ys) ∙ grouped (nat_eq a x) (is_in a xs) (is_in a ys)
  where
    grouped : (b c d : Bool) → (b || (c || d)) ≡ ((b || c) || d)
    grouped true c d = refl
    grouped false c d = refl

or_false : (b : Bool) → (b || false) ≡ b
or_false true = refl
or_false false = refl

-- each once, behind those that are listed
module _ (a : ℕ) where
  put_in : (ys : List ℕ) (x : ℕ) → is_in a (put ys x) ≡ (is_in a ys || nat_eq a x)
  put_in ys x = by (is_in x ys) refl
    where
      by : (b : Bool) → is_in x ys ≡ b → is_in a (if b then ys else ys ++ x ∷ []) ≡ (is_in a ys || nat_eq a x)
      by true e = elim (cases_eq a x) [
        | inl z ↦ let there : is_in a ys ≡ true = ap (λ v. is_in v ys) z ∙ e in there ∙ sym (ap (λ t. t || nat_eq a x) there)
        | inr d ↦ sym (ap (λ t. is_in a ys || t) (ne_eqb a x d) ∙ or_false (is_in a ys))
      ]
      by false e = in_both a ys (x ∷ []) ∙ ap (λ t. is_in a ys || t) (or_false (nat_eq a x))

  put_times : (ys : List ℕ) (x : ℕ) → times ys a ≡ bit (is_in a ys) → times (put ys x) a ≡ bit (is_in a (put ys x))
  put_times ys x h = by (is_in x ys) refl
    where
      by : (b : Bool) → is_in x ys ≡ b → times (if b then ys else ys ++ x ∷ []) a ≡ bit (is_in a (if b then ys else ys ++ x ∷ []))
      by true e = h
      by false e = elim (cases_eq a x) [
        | inl z ↦
            let none : is_in a ys ≡ false = ap (λ v. is_in v ys) z ∙ e in
            let has : is_in a (ys ++ x ∷ []) ≡ true = in_both a ys (x ∷ []) ∙ ap (λ t. t || (nat_eq a x || false)) none ∙ ap (λ t. t || false) (eq-eqb a x z) in
            omega (arith, times_both ys (x ∷ []) a, h, ap bit none, ap bit (eq-eqb x a (sym z)), ap bit has)
        | inr d ↦
            let same : is_in a (ys ++ x ∷ []) ≡ is_in a ys = in_both a ys (x ∷ []) ∙ ap (λ t. is_in a ys || (t || false)) (ne_eqb a x d) ∙ or_false (is_in a ys) in
            omega (arith, times_both ys (x ∷ []) a, h, ap bit (ne_eqb x a (λ z. d (sym z))), ap bit same)
      ]

  each_times : (ys xs : List ℕ) → times ys a ≡ bit (is_in a ys) → times (put_each ys xs) a ≡ bit (is_in a ys || is_in a xs)
  each_times ys [] h = h ∙ ap bit (sym (or_false (is_in a ys)))
  each_times ys (x ∷ xs) h = each_times (put ys x) xs (put_times ys x h) ∙ ap (λ t. bit (t || is_in a xs)) (put_in ys x) ∙ ap bit (grouped (is_in a ys) (nat_eq a x) (is_in a xs))
    where
      grouped : (b c d : Bool) → ((b || c) || d) ≡ (b || (c || d))
      grouped true c d = refl
      grouped false c d = refl

  own_times : (p : Proc) → times (own p) a ≡ bit (has_symbol (marks_of_proc p) a)
  own_times p = each_times [] (symbols_in (marks_of_proc p)) refl

  made_times : (p : Proc) → times (own_made p) a ≡ bit (has_symbol (marks_of_proc p) a && not (grants p))
  made_times p = by (grants p)
    where
      and_true : (b : Bool) → b ≡ (b && true)
      and_true true = refl
      and_true false = refl

      and_false : (b : Bool) → false ≡ (b && false)
      and_false true = refl
      and_false false = refl

      by : (b : Bool) → times (if b then [] else own p) a ≡ bit (has_symbol (marks_of_proc p) a && not b)
      by true = ap bit (and_false (has_symbol (marks_of_proc p) a))
      by false = own_times p ∙ ap bit (and_true (has_symbol (marks_of_proc p) a))

  pub standing_is : (ps : List Proc) → times (joined own ps) a ≡ standing ps a
  standing_is [] = refl
  standing_is (p ∷ ps) = omega (arith, times_both (own p) (joined own ps) a, own_times p, standing_is ps)

  pub made_is : (ps : List Proc) → times (joined own_made ps) a ≡ made ps a
  made_is [] = refl
  made_is (p ∷ ps) = omega (arith, times_both (own_made p) (joined own_made ps) a, made_times p, made_is ps)

out_same : (ms : List Mark) (a : ℕ) → gives_symbol ms a ≡ output_in ms a
out_same [] a = refl
out_same (m ∷ ms) a = ap (λ (b : Bool). if b then is_output m.dir else gives_symbol ms a) (eq_flip m.sym.0 a) ∙ ap (λ (x : Bool). if nat_eq a m.sym.0 then is_output m.dir else x) (out_same ms a)

pub outs_long : (c : Command) → length (outs_of (Cmd c)) ≡ length c.names
outs_long c = length-map-range_with_len (gives_symbol (marks_of_all c.procs)) 0 (length c.names)

pub meetings_are : (c : Command) (outs : List Bool) (mades standings : List ℕ) → outs ≡ outs_of (Cmd c) → mades ≡ map (times (joined own_made c.procs)) (range_with_len 0 (length c.names))
    → standings ≡ map (times (joined own c.procs)) (range_with_len 0 (length c.names))
    → map (λ a. meeting_by (get_or outs a false) (get_or mades a 0) (get_or standings a 0)) (range_with_len 0 (length outs)) ≡ map (meeting c.procs) (range_with_len 0 (length c.names))
meetings_are c outs mades standings o m s =
    ap (λ n. map (λ a. meeting_by (get_or outs a false) (get_or mades a 0) (get_or standings a 0)) (range_with_len 0 n)) (ap length o ∙ outs_long c)
    ∙ map_same (λ a. meeting_by (get_or outs a false) (get_or mades a 0) (get_or standings a 0)) (meeting c.procs) 0 (length c.names)
    (λ a low high.
    let below : a < length c.names = omega (arith, high) in
    let out : get_or outs a false ≡ out_of c.procs a = ap (λ xs. get_or xs a false) o ∙ get_or-map-range_with_len (gives_symbol (marks_of_all c.procs)) 0 (length c.names) a a false below (omega arith) ∙ out_same (marks_of_all c.procs) a in
    let many : get_or mades a 0 ≡ made c.procs a = ap (λ xs. get_or xs a 0) m ∙ get_or-map-range_with_len (times (joined own_made c.procs)) 0 (length c.names) a a 0 below (omega arith) ∙ made_is a c.procs in
    let stand : get_or standings a 0 ≡ standing c.procs a = ap (λ xs. get_or xs a 0) s ∙ get_or-map-range_with_len (times (joined own c.procs)) 0 (length c.names) a a 0 below (omega arith) ∙ standing_is a c.procs in
    λ i. meeting_by (out i) (many i) (stand i))
