-- Bursts of one mark, and processes whose steps are those of a machine.
use Rattle.std.proofs.Common.{◌≡◌, ℕ, Bool, true, false, true≢false, ◌||◌, if◌then◌else◌, nat_eq, List, [], ◌∷◌, IsTrue, Option, refl, sym, ap, ◌∙◌, subst, eqb-true, eq-eqb}
use Rattle.cmd_tree.specs.declared.tree.Mark.{Mark}
use Rattle.cmd_tree.specs.Tree.{TSeq}
use Rattle.cmd_tree.specs.Meaning.{symbols}
use Rattle.cmd_tree.specs.Lists.{is_in}
use Rattle.cmd_tree.specs.Residual.{without, Left, Next, Step, within, opens, Runs}
use Rattle.process_laws.proofs.Fair.{left}
use Rattle.process_laws.proofs.GrantMachine.{Path}

pub in_one : (a x : ℕ) → IsTrue (is_in a (x ∷ [])) → a ≡ x
in_one a x h = by (nat_eq a x) refl h
  where
    by : (b : Bool) → nat_eq a x ≡ b → IsTrue (b || false) → a ≡ x
    by true e h = eqb-true a x e
    by false e h = absurd (true≢false (sym h))

pub one_in : (a x : ℕ) → a ≡ x → IsTrue (is_in a (x ∷ []))
one_in a x e = ap (λ b. b || false) (eq-eqb a x e)

pub one_out : (a x : ℕ) → a ≡ x → without a (x ∷ []) ≡ []
one_out a x e = ap (λ b. if b then [] else x ∷ []) (eq-eqb a x e)

-- a step where nothing is pending opens a burst
pub record Opening (body : Option TSeq) (r : TSeq) (a : ℕ) (m : Left) : Type 0 where
  pub marks : List Mark
  pub later : TSeq
  pub next : Next body r marks later
  pub there : IsTrue (is_in a (symbols marks))
  pub same : m ≡ left (without a (symbols marks)) later

pub opening : (body : Option TSeq) (r : TSeq) (a : ℕ) (m : Left) → Step body (left [] r) a m
    → Opening body r a m
opening body r a m s = at (left [] r) a m s refl
  where
    at : (c : Left) (b : ℕ) (n : Left) → Step body c b n → c ≡ left [] r → Opening body r b n
    at _ _ _ (within c b there) e = absurd (true≢false (sym (subst (λ d. IsTrue (is_in b d.pending)) e there)))
    at _ _ _ (opens c b ms q none next there) e = record { marks = ms; later = q; next = subst (λ d. Next body d.rest ms q) e next; there = there; same = refl }

-- a burst of one mark
pub opens_one : (body : Option TSeq) (r : TSeq) (k : Mark) (q : TSeq) → Next body r (k ∷ []) q
    → Step body (left [] r) k.sym.0 (left [] q)
opens_one body r k q next = subst (λ p. Step body (left [] r) k.sym.0 (left p q)) (one_out k.sym.0 k.sym.0 refl) (opens (left [] r) k.sym.0 (k ∷ []) q refl next (one_in k.sym.0 k.sym.0 refl))

pub record OpensOne (body : Option TSeq) (r : TSeq) (a : ℕ) (m : Left) (k : Mark) (q : TSeq) : Type 0 where
  pub is : a ≡ k.sym.0
  pub same : m ≡ left [] q

pub opened_one : (body : Option TSeq) (r : TSeq) (a : ℕ) (m : Left) (o : Opening body r a m) (k : Mark) (q : TSeq) → o.marks ≡ k ∷ [] → o.later ≡ q → OpensOne body r a m k q
opened_one body r a m o k q e f =
    let is : a ≡ k.sym.0 = in_one a k.sym.0 (subst (λ ms. IsTrue (is_in a (symbols ms))) e o.there) in
    record {
      is = is;
      same = o.same ∙ ap (λ ms. left (without a (symbols ms)) o.later) e ∙ ap (λ p. left p o.later) (one_out a k.sym.0 is) ∙ ap (λ x. left [] x) f;
    }

-- a process at states at which nothing is pending
module _ (body : Option TSeq) (S : Type 0) (go : S → ℕ → S → Type 0) (rest : S → TSeq) where
  pub record Simulates : Type 0 where
    pub there : (s : S) (a : ℕ) (m : Left) → Step body (left [] (rest s)) a m
        → (r : S) × go s a r × (m ≡ left [] (rest r))
    pub back : (s : S) (a : ℕ) (r : S) → go s a r → Step body (left [] (rest s)) a (left [] (rest r))

  pub runs_path : Simulates → (t : List ℕ) (s : S) → Runs body (left [] (rest s)) t → Path S go t s
  runs_path f [] s h = tt
  runs_path f (a ∷ t) s h =
      let k = f.there s a h.0 h.1 in
      (k.0, k.1, runs_path f t k.0 (subst (λ m. Runs body m t) k.2 h.2))

  pub path_runs : Simulates → (t : List ℕ) (s : S) → Path S go t s → Runs body (left [] (rest s)) t
  path_runs f [] s h = tt
  path_runs f (a ∷ t) s h = (left [] (rest h.0), f.back s a h.0 h.1, path_runs f t h.0 h.2)
