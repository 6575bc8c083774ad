-- A network R that is A with a network B in the place of one of its nodes, by equations.
-- A's node a and B's node b are the same process seen from its two sides, so A and B play equal parts.
use Rattle.std.proofs.Common.{◌≡◌, ◌≢◌, ◌↔◌, ◌⊎◌, ℕ, List, Option, None, Some, inl, inr, sym}
use Rattle.net_core.specs.Runs.{Fabric}

-- How A without its node a lies in R. The node n is i n there; here w is the wire of A that R's wire w is,
-- and there w the wire of B.
pub record Half (A : Fabric) (a : ℕ) (B : Fabric) (b : ℕ) (R : Fabric) (i : ℕ → ℕ) (here there : ℕ → Option ℕ) : Type 0 where
  -- a kept node keeps its traces and its output ports, and is one node of R
  pub may : (n : ℕ) → n ≢ a → (t : List ℕ) → R.may (i n) t ↔ A.may n t
  pub fires : (n p : ℕ) → n ≢ a → R.fires (i n) p ↔ A.fires n p
  pub alone : (n m : ℕ) → n ≢ a → m ≢ a → i n ≡ i m → n ≡ m
  -- it drives the wire that it drove, which is no wire of B unless it leads to a
  pub drives : (n p : ℕ) → n ≢ a → A.fires n p → here (R.wire (i n) p) ≡ Some (A.wire n p)
  pub own : (n p : ℕ) → n ≢ a → A.fires n p → A.to (A.wire n p) ≢ a → there (R.wire (i n) p) ≡ None
  -- a wire of A is one wire of R
  pub one : (w x v : ℕ) → here w ≡ Some v → here x ≡ Some v → w ≡ x
  -- a wire to a kept node leads there
  pub to : (w v : ℕ) → here w ≡ Some v → A.to v ≢ a → R.to w ≡ i (A.to v)
  pub into : (w v : ℕ) → here w ≡ Some v → A.to v ≢ a → R.into w ≡ A.into v
  -- a wire to a goes on as the wire of B that b drives by the same port, and not back to b
  pub port : (w v : ℕ) → here w ≡ Some v → A.to v ≡ a → B.fires b (A.into v)
  pub on : (w v : ℕ) → here w ≡ Some v → A.to v ≡ a → there w ≡ Some (B.wire b (A.into v))
  pub past : (w v : ℕ) → here w ≡ Some v → A.to v ≡ a → B.to (B.wire b (A.into v)) ≢ b

-- R is A and B joined at a and b.
pub record Joins (A : Fabric) (a : ℕ) (B : Fabric) (b : ℕ) (R : Fabric) : Type 0 where
  -- the nodes of A and of B in R
  pub i : ℕ → ℕ
  pub j : ℕ → ℕ
  -- the wires of A and of B that a wire of R is
  pub here : ℕ → Option ℕ
  pub there : ℕ → Option ℕ
  pub left : Half A a B b R i here there
  pub right : Half B b A a R j there here
  pub apart : (n m : ℕ) → n ≢ a → m ≢ b → i n ≢ j m
  -- a node that fires is a kept node of A or of B
  pub nodes : (m p : ℕ) → R.fires m p → ((n : ℕ) × (n ≢ a) × (m ≡ i n)) ⊎ ((n : ℕ) × (n ≢ b) × (m ≡ j n))
  -- a wire of both leads to a or to b
  pub fused : (w v u : ℕ) → here w ≡ Some v → there w ≡ Some u → (A.to v ≡ a) ⊎ (B.to u ≡ b)
  -- a and b have the same traces, and each port is an output of one of them at most
  pub same : (t : List ℕ) → A.may a t ↔ B.may b t
  pub opposite : (p : ℕ) → A.fires a p → B.fires b p → ⊥

abbrev pub turned : {X Y : Type 0} → X ⊎ Y → Y ⊎ X
turned (inl x) = inr x
turned (inr y) = inl y

-- the same seen from B
abbrev pub mirror : {A : Fabric} {a : ℕ} {B : Fabric} {b : ℕ} {R : Fabric} → Joins A a B b R → Joins B b A a R
mirror k = record {
  i = k.j;
  j = k.i;
  here = k.there;
  there = k.here;
  left = k.right;
  right = k.left;
  apart = λ n m h g e. k.apart m n g h (sym e);
  nodes = λ m p f. turned (k.nodes m p f);
  fused = λ w v u g h. turned (k.fused w u v h g);
  same = λ t. ((k.same t).1, (k.same t).0);
  opposite = λ p f g. k.opposite p g f;
}
