-- Mirror of the keys in the code's table of names: their order is total, and keys are tied where they are equal.
use Rattle.std.specs.Prelude.{◌≡◌, ℕ, true, false, List, Some}
use Rattle.std.specs.declared.cmp.Ordering.{Ordering}
use Rattle.std.specs.Ordering.{is_eq, nat_cmp, ordering_then, as_partial_cmp}
use Rattle.std.specs.declared.cmp.Ordering.TheVariants.{Less, Equal, Greater}
use Rattle.std.specs.Cmp.{IsTotalOrder, IsPartialOrder, nat_cmp_total, on_total, then_total, tied_itself, partial_order_from_agreeing_total}
use Rattle.std.specs.Cmp.Lexicographic.{slice_cmp, nat_list_cmp_total}
use Rattle.std.specs.Str.{bytes_eq}
use Rattle.std.proofs.Common.{refl, sym, ◌∙◌, ap, subst, ⊎_elim}
use Rattle.std.proofs.lemmas.Bool.{cases_Bool}
use Rattle.std.proofs.lemmas.Map.Text.{is_eq-slice_cmp}
use Rattle.std.proofs.lemmas.Slice.Eq.{bytes_eq-Decides}
use Rattle.cmd_text.specs.Mirror.Tables.{number_of, key_cmp}

pub key_total : IsTotalOrder key_cmp
key_total = then_total (on_total number_of nat_cmp_total) nat_list_cmp_total

pub key_agrees : (x y : List ℕ) → as_partial_cmp key_cmp x y ≡ Some (key_cmp x y)
key_agrees x y = refl

-- tied by both, which are apart by the second
apart_by : (a b : Ordering) → is_eq b ≡ false → is_eq (ordering_then a b) ≡ false
apart_by Less b e = refl
apart_by Equal b e = e
apart_by Greater b e = refl

pub key_eq : (x y : List ℕ) → bytes_eq x y ≡ is_eq (key_cmp x y)
key_eq x y = ⊎_elim
    (λ t. t ∙ sym (subst (λ z. is_eq (key_cmp x z) ≡ true) ((bytes_eq-Decides x y).0 t) (ap is_eq (tied_itself key_total x))))
    (λ f. f ∙ sym (apart_by (nat_cmp (number_of x) (number_of y)) (slice_cmp nat_cmp x y) (is_eq-slice_cmp x y ∙ f)))
    (cases_Bool (bytes_eq x y))

pub key_laws : IsPartialOrder bytes_eq (as_partial_cmp key_cmp)
key_laws = partial_order_from_agreeing_total key_cmp key_total key_agrees key_eq
