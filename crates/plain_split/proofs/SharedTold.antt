-- What the environment was given had been put: this stays so as the story grows.
use Rattle.std.proofs.Common.{◌≡◌, ◌⊎◌, inl, inr, ℕ, suc, ◌+◌, ◌<◌, ◌≤◌, Bool, true, false, true≢false, List, [], ◌∷◌, ◌++◌, sym, ap, ◌∙◌, subst, arith}
use Rattle.std.proofs.lemmas.Bool.{cases_eq}
use Rattle.cmd_tree.specs.Meaning.{symbols}
use Rattle.place_graph.specs.declared.leg.Leg.{Leg}
use Rattle.place_graph.specs.Points.{Among as Member}
use Rattle.place_graph.specs.Graph.{is_act}
use Rattle.place_graph.specs.Tale.{times, Tale}
use Rattle.place_graph.specs.Chart.{Has, Increase, Chart, Grows, done}
use Rattle.place_graph.proofs.Sums.{later_places, times_from_in, one_same, one_other}
use Rattle.plain_split.proofs.SharedGiven.{ShownBy}

-- ---- legs by their places

pub place_one : (L : List Leg) → Increase L → (l m : Leg) → Member L l → Member L m → l.place ≡ m.place → l ≡ m
place_one [] i l m a b e = absurd a
place_one (x ∷ L) i l m (inl p) (inl q) e = sym p ∙ q
place_one (x ∷ L) i l m (inl p) (inr b) e = absurd (omega (arith, later_places x.place L i.0 m b, ap (λ (y : Leg). y.place) p, e))
place_one (x ∷ L) i l m (inr a) (inl q) e = absurd (omega (arith, later_places x.place L i.0 l a, ap (λ (y : Leg). y.place) q, e))
place_one (x ∷ L) i l m (inr a) (inr b) e = place_one L i.1 l m a b e

pub done_one : (past : List Leg) (l m : Leg) → ((m.place ≡ l.place) × (done (l ∷ past) m ≡ suc (done past m))) ⊎ ((m.place ≡ l.place → ⊥) × (done (l ∷ past) m ≡ done past m))
done_one past l m = elim (cases_eq m.place l.place) [
  | inl e ↦ inl (e, omega (arith, one_same m.place l.place e))
  | inr e ↦ inr (e, omega (arith, one_other m.place l.place e))
]

pub times_one : (came : List ℕ) (a b : ℕ) → ((b ≡ a) × (times b (a ∷ came) ≡ suc (times b came))) ⊎ ((b ≡ a → ⊥) × (times b (a ∷ came) ≡ times b came))
times_one came a b = elim (cases_eq b a) [
  | inl e ↦ inl (e, omega (arith, one_same b a e))
  | inr e ↦ inr (e, omega (arith, one_other b a e))
]

-- ---- what was given

-- How often an act has put each of its outputs is at least as often as it is completed, and as what came of it where it is under way.
pub record Told (L : List Leg) (D : Leg → ℕ) (here : ℕ) (came : ℕ → ℕ) (put : Leg → ℕ → ℕ) : Type 0 where
  pub told : (m : Leg) (a : ℕ) → Member L m × (is_act m ≡ true) → Has m a → D m ≤ put m a
  pub ahead : (m : Leg) (a : ℕ) → Member L m × (is_act m ≡ true) → Has m a → m.from ≡ here → D m + came a ≤ put m a

pub told_more : (L : List Leg) (D : Leg → ℕ) (here : ℕ) (came : ℕ → ℕ) (put more : Leg → ℕ → ℕ) → Told L D here came put → ((m : Leg) (a : ℕ) → put m a ≤ more m a) → Told L D here came more
told_more L D here came put more v h = record {
  told = λ m a i x. omega (arith, v.told m a i x, h m a);
  ahead = λ m a i x e. omega (arith, v.ahead m a i x e, h m a);
}

module _ (L : List Leg) (out : ℕ → Bool) (chart : Chart L out) (story : List ℕ) (tale : Tale L story) (a : ℕ) (n : Grows L story a tale) (put more : Leg → ℕ → ℕ)
    (v : Told L (done tale.past) tale.here (λ b. times b tale.came) put) (h : (m : Leg) (b : ℕ) → put m b ≤ more m b) where
  abbrev Next : Type 0
  Next = Told L (done n.next.past) n.next.here (λ b. times b n.next.came) more

  abbrev Stays : Type 0
  Stays = (n.next.past ≡ tale.past) × (n.next.here ≡ tale.here) × (n.next.came ≡ a ∷ tale.came)

  abbrev Ends : Type 0
  Ends = (n.next.past ≡ n.grown.leg ∷ tale.past) × (n.next.here ≡ n.grown.leg.to) × (n.next.came ≡ []) × ((b : ℕ) → times b (symbols n.grown.leg.marks) ≡ times b (a ∷ tale.came))

  -- where the symbol is taken, no act is completed
  pub told_taken : out a ≡ false → Next
  told_taken o = at n.grown.how
    where
      l : Leg
      l = n.grown.leg

      takes : is_act l ≡ false
      takes = sym (chart.dirs l a n.grown.among n.grown.has) ∙ o

      at : Stays ⊎ Ends → Next
      at (inl (p, here, c)) = record {
        told = λ m b k x. omega (arith, v.told m b k x, h m b, ap (λ q. done q m) p);
        ahead = λ m b k x e.
            let same : l ≡ m = chart.lone m l k.0 n.grown.among k.1 (n.grown.from ∙ sym here ∙ sym e) in
            absurd (true≢false (sym k.1 ∙ ap is_act (sym same) ∙ takes));
      }
      at (inr (p, here, c, all)) =
          let told : (m : Leg) (b : ℕ) → Member L m × (is_act m ≡ true) → Has m b → done n.next.past m ≤ more m b = λ m b k x. elim (done_one tale.past l m) [
            | inl z ↦
                let same : m ≡ l = place_one L chart.increase m l k.0 n.grown.among z.0 in
                absurd (true≢false (sym k.1 ∙ ap is_act same ∙ takes))
            | inr z ↦ omega (arith, v.told m b k x, h m b, ap (λ q. done q m) p, z.1)
          ] in
          record { told = told; ahead = λ m b k x e. omega (arith, told m b k x, ap (times b) c) }

  -- where it is given, the act from here had put it
  pub told_given : ShownBy L (done tale.past) tale.here (λ b. times b tale.came) put a → Next
  told_given s = at n.grown.how
    where
      m : Leg
      m = s.act

      same : n.grown.leg ≡ m
      same = chart.lone m n.grown.leg s.acts.0 n.grown.among s.acts.1 (n.grown.from ∙ sym s.from)

      put_more : (b : ℕ) → Has m b → ((b ≡ a) × (times b (a ∷ tale.came) ≡ suc (times b tale.came))) ⊎ ((b ≡ a → ⊥) × (times b (a ∷ tale.came) ≡ times b tale.came))
          → done tale.past m + times b (a ∷ tale.came) ≤ put m b
      put_more b x (inl (e, z)) = omega (arith, s.more, s.none, ap (put m) e, z, ap (λ y. times y tale.came) e)
      put_more b x (inr (e, z)) = omega (arith, v.ahead m b s.acts x s.from, z)

      at : Stays ⊎ Ends → Next
      at (inl (p, here, c)) = record {
        told = λ k b j x. omega (arith, v.told k b j x, h k b, ap (λ q. done q k) p);
        ahead = λ k b j x e.
            let z : k ≡ m = chart.lone m k s.acts.0 j.0 s.acts.1 (e ∙ here ∙ sym s.from) in
            omega (
              arith,
              put_more b (subst (λ y. Has y b) z x) (times_one tale.came a b),
              h k b,
              ap (λ q. done q k) p,
              ap (done tale.past) z,
              ap (λ (y : Leg). put y b) z,
              ap (times b) c,
            );
      }
      at (inr (p, here, c, all)) =
          let told : (k : Leg) (b : ℕ) → Member L k × (is_act k ≡ true) → Has k b → done n.next.past k ≤ more k b = λ k b j x. elim (done_one tale.past n.grown.leg k) [
            | inl z ↦
                let e : k ≡ n.grown.leg = place_one L chart.increase k n.grown.leg j.0 n.grown.among z.0 in
                let y : k ≡ m = e ∙ same in
                omega (
                  arith,
                  put_more b (subst (λ y. Has y b) y x) (times_one tale.came a b),
                  all b,
                  times_from_in b (symbols n.grown.leg.marks) (subst (λ y. Has y b) e x),
                  z.1,
                  h k b,
                  ap (λ q. done q k) p,
                  ap (done tale.past) y,
                  ap (λ (y : Leg). put y b) y,
                )
            | inr z ↦ omega (arith, v.told k b j x, h k b, ap (λ q. done q k) p, z.1)
          ] in
          record { told = told; ahead = λ k b j x e. omega (arith, told k b j x, ap (times b) c) }
