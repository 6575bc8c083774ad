-- One schedule is drawn.
use Rattle.std.proofs.Common.{◌≡◌, ℕ, List, ◌∷◌, refl, sym, ap, subst}
use Rattle.rand_pcg.specs.Lcg.{Lcg}
use Rattle.rand_pcg.specs.Pcg.{pcg32}
use Rattle.net_core.specs.Runs.{State}
use Rattle.net_core.specs.Wiring.{Circuit}
use Rattle.replay.specs.declared.event.Event.{Event}
use Rattle.replay.specs.declared.event.Answer.{Answer}
use Rattle.replay.specs.declared.event.Answer.TheVariants.{Done}
use Rattle.replay.specs.Answers.{event_of, left_by, IsAnswer}
use Rattle.replay.proofs.Answering.{one_answer_to}
use Rattle.net_drive.specs.declared.driving.Stop.{Stop}
use Rattle.net_drive.specs.declared.driving.Stop.TheVariants.{Hazard}
use Rattle.net_drive.specs.Drawn.{Drawn, ended, quiet, hazard, applied}
use Rattle.net_drive.proofs.Listing.{one_draw, no_draw}

same_answer : (c : Circuit) (s : State) (e f : Event) (a b : Answer) → e ≡ f → IsAnswer c s e a → IsAnswer c s f b → a ≡ b
same_answer c s e f a b is h k = one_answer_to c s (event_of c e) a b h (subst (λ x. IsAnswer c s x b) (sym is) k)

pub once : (c : Circuit) (n : ℕ) (g : Lcg) (s : State) (es fs : List Event) (a b : Stop) → Drawn c n g s es a → Drawn c n g s fs b
    → (es ≡ fs) × (a ≡ b)
once c n g s es fs a b (ended _ _) (ended _ _) = (refl, refl)
once c n g s es fs a b (quiet m _ _ l) (quiet _ _ _ k) = (refl, refl)
once c n g s es fs a b (quiet m _ _ l) (hazard _ _ _ e x d h ne) = absurd (no_draw c s (pcg32 g).0 e l d)
once c n g s es fs a b (quiet m _ _ l) (applied _ _ _ e _ _ d h r) = absurd (no_draw c s (pcg32 g).0 e l d)
once c n g s es fs a b (hazard m _ _ e x d h ne) (quiet _ _ _ l) = absurd (no_draw c s (pcg32 g).0 e l d)
once c n g s es fs a b (hazard m _ _ e x d h ne) (hazard _ _ _ f y d2 k ne2) =
    (refl, ap Hazard (same_answer c s e f x y (one_draw c s (pcg32 g).0 e f d d2) h k))
once c n g s es fs a b (hazard m _ _ e x d h ne) (applied _ _ _ f _ _ d2 k r) =
    absurd (ne (same_answer c s e f x Done (one_draw c s (pcg32 g).0 e f d d2) h k))
once c n g s es fs a b (applied m _ _ e _ _ d h r) (quiet _ _ _ l) = absurd (no_draw c s (pcg32 g).0 e l d)
once c n g s es fs a b (applied m _ _ e _ _ d h r) (hazard _ _ _ f y d2 k ne) =
    absurd (ne (sym (same_answer c s e f Done y (one_draw c s (pcg32 g).0 e f d d2) h k)))
once c n g s es fs a b (applied m _ _ e xs _ d h r) (applied _ _ _ f ys _ d2 k q) =
    let is = one_draw c s (pcg32 g).0 e f d d2 in
    let rest = once c m (pcg32 g).1 (left_by c s (event_of c f)) xs ys a b
    (subst (λ x. Drawn c m (pcg32 g).1 (left_by c s (event_of c x)) xs a) is r) q in
    ((λ i. is i ∷ rest.0 i), rest.1)
