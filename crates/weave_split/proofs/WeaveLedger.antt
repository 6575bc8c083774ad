-- What the components of a weave keep: no wire comes more often than what leads to it. From that, and from what the
-- processes keep, each wire is free where it may be fired, and may be handed over where it is full.
use Rattle.std.proofs.Common.{◌≡◌, ◌⊎◌, inl, inr, ℕ, suc, ◌+◌, ◌<◌, ◌≤◌, true, sym, subst, ◌∙◌, arith, if◌then◌else◌}
use Rattle.std.proofs.lemmas.Bool.{cases_lt}
use Rattle.net_laws.proofs.Told.{Flows}
use Rattle.net_laws.proofs.Woven.{Grew, grew_other}
use Rattle.net_laws.proofs.Among.{Among, Distinct}
use Rattle.plain_split.proofs.OneWaitWeb.{sum_of}
use Rattle.weave_split.specs.WeaveChart.{Wire, Take, Copy, Back, Made, Ask, Return, Token, Give, Ties}
use Rattle.weave_split.proofs.WeaveWeb.{Real}
use Rattle.weave_split.proofs.WeaveSums.{sum_low, sum_gap, sum_less, sum_late}

abbrev pub start : Ties → ℕ → ℕ
start g p = if g.lends p then 1 else 0

-- how often a grant gave one, how often it was asked or given one back, and how often that came to it
abbrev pub gifts : Ties → (Wire → ℕ) → ℕ → ℕ
gifts g c p = sum_of (λ s. c (Give s)) (g.requests p)

abbrev pub asked : Ties → (Wire → ℕ) → ℕ → ℕ
asked g c p = sum_of (λ s. c (Take s)) (g.returns p)

abbrev pub backs : Ties → (Wire → ℕ) → ℕ → ℕ
backs g c p = sum_of (λ s. c (Back s p)) (g.returns p)

-- the wire may have been fired n times, where P tells how often each was handed over
abbrev pub Low : Ties → (Wire → ℕ) → ℕ → Wire → Type 0
Low g P n (Take s) = Unit {0}
Low g P n (Copy s p) = n ≤ P (Take s)
Low g P n (Back s p) = n ≤ P (Take s)
Low g P n (Made s p) = Unit {0}
Low g P n (Ask s) = (p : ℕ) → Among p (g.givers s) → n ≤ P (Made s p)
Low g P n (Return p) = n ≤ backs g P p
Low g P n (Token p) = n ≤ P (Return p) + start g p
Low g P n (Give s) = n ≤ P (Ask s)

pub record Ledger (g : Ties) (F P : Wire → ℕ) : Type 0 where
  pub low : (w : Wire) → Low g P (F w) w
  -- a SEQ gives no more than it had tokens
  pub lent : (p : ℕ) → g.grants p ≡ true → gifts g F p ≤ P (Token p)

-- ---- it is kept

low_send : (g : Ties) (P F : Wire → ℕ) (w : Wire) (G : Wire → ℕ) → ((v : Wire) → Low g P (F v) v) → Grew F w G → Low g P (suc (F w)) w → (v : Wire) → Low g P (G v) v
low_send g P F w G low grew new v = at (grew v)
  where
    at : ((v ≡ w) × (G v ≡ suc (F v))) ⊎ ((v ≡ w → ⊥) × (G v ≡ F v)) → Low g P (G v) v
    at (inl (e, x)) = subst (λ n. Low g P n v) (sym x) (subst (λ y. Low g P (suc (F y)) y) (sym e) new)
    at (inr (e, x)) = subst (λ n. Low g P n v) (sym x) (low v)

low_land : (g : Ties) (P Q : Wire → ℕ) → ((v : Wire) → P v ≤ Q v) → (n : ℕ) (v : Wire) → Low g P n v → Low g Q n v
low_land g P Q more n (Take s) h = tt
low_land g P Q more n (Copy s p) h = omega (arith, h, more (Take s))
low_land g P Q more n (Back s p) h = omega (arith, h, more (Take s))
low_land g P Q more n (Made s p) h = tt
low_land g P Q more n (Ask s) h = λ p a. omega (arith, h p a, more (Made s p))
low_land g P Q more n (Return p) h = omega (arith, h, sum_low (λ s. P (Back s p)) (λ s. Q (Back s p)) (g.returns p) (λ s a. more (Back s p)))
low_land g P Q more n (Token p) h = omega (arith, h, more (Return p))
low_land g P Q more n (Give s) h = omega (arith, h, more (Ask s))

grew_is : (F : Wire → ℕ) (w : Wire) (G : Wire → ℕ) → Grew F w G → (v : Wire) → F v < G v → v ≡ w
grew_is F w G grew v less = at (grew v)
  where
    at : ((v ≡ w) × (G v ≡ suc (F v))) ⊎ ((v ≡ w → ⊥) × (G v ≡ F v)) → v ≡ w
    at (inl (e, x)) = e
    at (inr (e, x)) = absurd (omega (arith, x, less))

grew_one : (F : Wire → ℕ) (w : Wire) (G : Wire → ℕ) → Grew F w G → (v : Wire) → G v ≤ suc (F v)
grew_one F w G grew v = at (grew v)
  where
    at : ((v ≡ w) × (G v ≡ suc (F v))) ⊎ ((v ≡ w → ⊥) × (G v ≡ F v)) → G v ≤ suc (F v)
    at (inl (e, x)) = omega (arith, x)
    at (inr (e, x)) = omega (arith, x)

lent_send : (g : Ties) (p m : ℕ) (F : Wire → ℕ) (w : Wire) (G : Wire → ℕ) → Distinct (g.requests p) → gifts g F p ≤ m → Grew F w G
    → ((s : ℕ) → w ≡ Give s → Among s (g.requests p) → gifts g F p < m) → gifts g G p ≤ m
lent_send g p m F w G once low grew less = elim (cases_lt (gifts g F p) (gifts g G p)) [
  | inl more ↦
      let (s, a, grown) = sum_less (λ s. F (Give s)) (λ s. G (Give s)) (g.requests p) more in
      let is : Give s ≡ w = grew_is F w G grew (Give s) grown in
      let one : gifts g G p ≤ suc (gifts g F p) = sum_late (λ s. F (Give s)) (λ s. G (Give s)) (g.requests p) once s (grew_one F w G grew (Give s))
      (λ x apart. let other : G (Give x) ≡ F (Give x) = grew_other F w G grew (Give x) (λ e. let z : Give x ≡ Give s = e ∙ sym is in let y : x ≡ s = cc in apart y) in omega (arith, other)) in
      omega (arith, one, less s (sym is) a)
  | inr same ↦ omega (arith, low, same)
]

pub ledger_send : (g : Ties) (F P : Wire → ℕ) (w : Wire) (G : Wire → ℕ) → ((p : ℕ) → g.grants p ≡ true → Distinct (g.requests p)) → Ledger g F P → Grew F w G → Low g P (suc (F w)) w
    → ((s p : ℕ) → w ≡ Give s → g.grants p ≡ true → Among s (g.requests p) → gifts g F p < P (Token p)) → Ledger g G P
ledger_send g F P w G once l grew new less = record {
  low = low_send g P F w G l.low grew new;
  lent = λ p h. lent_send g p (P (Token p)) F w G (once p h) (l.lent p h) grew (λ s e a. less s p e h a);
}

pub ledger_land : (g : Ties) (F P Q : Wire → ℕ) → Ledger g F P → ((v : Wire) → P v ≤ Q v) → Ledger g F Q
ledger_land g F P Q l more = record {
  low = λ v. low_land g P Q more (F v) v (l.low v);
  lent = λ p h. omega (arith, l.lent p h, more (Token p));
}

-- ---- what it gives, with what the processes and grants keep

-- The environment is ahead of a process by at most one of an input, and a process of the environment by at most one of an
-- output; and a grant is to give at most one more than it gave.
pub record Sides (g : Ties) (F P : Wire → ℕ) : Type 0 where
  pub taken : (s p : ℕ) → Real g (Copy s p) → F (Take s) ≤ suc (P (Copy s p))
  pub made : (s p : ℕ) → Real g (Made s p) → F (Made s p) ≤ suc (P (Give s))
  pub high : (p : ℕ) → g.grants p ≡ true → asked g F p + start g p ≤ suc (gifts g P p)

-- once round a grant
pub record Ring (g : Ties) (F P : Wire → ℕ) (p : ℕ) : Type 0 where
  pub gave : gifts g P p ≤ gifts g F p
  pub lent : gifts g F p ≤ P (Token p)
  pub token : P (Token p) ≤ F (Token p)
  pub gate : F (Token p) ≤ P (Return p) + start g p
  pub return : P (Return p) ≤ F (Return p)
  pub merged : F (Return p) ≤ backs g P p
  pub back : backs g P p ≤ backs g F p
  pub spread : backs g F p ≤ asked g P p
  pub take : asked g P p ≤ asked g F p
  pub high : asked g F p + start g p ≤ suc (gifts g P p)

-- from a process to the environment
pub record Line (F P : Wire → ℕ) (s q : ℕ) : Type 0 where
  pub gave : P (Give s) ≤ F (Give s)
  pub shown : F (Give s) ≤ P (Ask s)
  pub ask : P (Ask s) ≤ F (Ask s)
  pub joined : F (Ask s) ≤ P (Made s q)
  pub make : P (Made s q) ≤ F (Made s q)
  pub near : F (Made s q) ≤ suc (P (Give s))

module _ (g : Ties) (F P : Wire → ℕ) (f : Flows F P) (l : Ledger g F P) (b : Sides g F P) where
  pub over : (w : Wire) → P w ≤ F w
  over w = at (f w)
    where
      at : (F w ≡ P w) ⊎ (F w ≡ suc (P w)) → P w ≤ F w
      at (inl e) = omega (arith, e)
      at (inr e) = omega (arith, e)

  pub ring : (p : ℕ) → g.grants p ≡ true → Ring g F P p
  ring p h = record {
    gave = sum_low (λ s. P (Give s)) (λ s. F (Give s)) (g.requests p) (λ s a. over (Give s));
    lent = l.lent p h;
    token = over (Token p);
    gate = l.low (Token p);
    return = over (Return p);
    merged = l.low (Return p);
    back = sum_low (λ s. P (Back s p)) (λ s. F (Back s p)) (g.returns p) (λ s a. over (Back s p));
    spread = sum_low (λ s. F (Back s p)) (λ s. P (Take s)) (g.returns p) (λ s a. l.low (Back s p));
    take = sum_low (λ s. P (Take s)) (λ s. F (Take s)) (g.returns p) (λ s a. over (Take s));
    high = b.high p h;
  }

  pub line : (s q : ℕ) → Real g (Made s q) → Line F P s q
  line s q r = record {
    gave = over (Give s);
    shown = l.low (Give s);
    ask = over (Ask s);
    joined = l.low (Ask s) q r.2;
    make = over (Made s q);
    near = b.made s q r;
  }

  -- ---- each wire that may be fired is free

  pub take_free : (s p : ℕ) → F (Take s) ≤ P (Copy s p) → F (Take s) ≡ P (Take s)
  take_free s p h = omega (arith, h, over (Copy s p), l.low (Copy s p), over (Take s))

  pub take_free_by : (s p : ℕ) → g.grants p ≡ true → Among s (g.returns p) → asked g F p + start g p ≡ gifts g P p → F (Take s) ≡ P (Take s)
  take_free_by s p h a e =
      let r : Ring g F P p = ring p h in
      let gap : asked g P p + F (Take s) ≤ asked g F p + P (Take s) = sum_gap (λ s. P (Take s)) (λ s. F (Take s)) (g.returns p) (λ s a. over (Take s)) s a in
      omega (arith, e, gap, over (Take s), r.gave, r.lent, r.token, r.gate, r.return, r.merged, r.back, r.spread)

  pub copy_free : (s p : ℕ) → Real g (Copy s p) → F (Copy s p) < P (Take s) → F (Copy s p) ≡ P (Copy s p)
  copy_free s p r less = omega (arith, less, over (Take s), b.taken s p r, over (Copy s p))

  -- what comes to a grant is at most one behind
  pub back_near : (s p : ℕ) → g.grants p ≡ true → Among s (g.returns p) → F (Take s) ≤ suc (P (Back s p))
  back_near s p h a =
      let r : Ring g F P p = ring p h in
      let gap : backs g P p + F (Take s) ≤ asked g F p + P (Back s p) =
      sum_gap (λ s. P (Back s p)) (λ s. F (Take s)) (g.returns p) (λ s a. omega (arith, over (Back s p), l.low (Back s p), over (Take s))) s a in
      omega (arith, gap, r.gave, r.lent, r.token, r.gate, r.return, r.merged, r.high)

  pub back_free : (s p : ℕ) → g.grants p ≡ true → Among s (g.returns p) → F (Back s p) < P (Take s) → F (Back s p) ≡ P (Back s p)
  back_free s p h a less = omega (arith, less, over (Take s), back_near s p h a, over (Back s p))

  pub made_free : (s q : ℕ) → Real g (Made s q) → F (Made s q) ≤ P (Give s) → F (Made s q) ≡ P (Made s q)
  made_free s q r low = let i : Line F P s q = line s q r in omega (arith, low, i.gave, i.shown, i.ask, i.joined, i.make)

  pub ask_free : (s q : ℕ) → Real g (Made s q) → F (Ask s) < P (Made s q) → F (Ask s) ≡ P (Ask s)
  ask_free s q r less = let i : Line F P s q = line s q r in omega (arith, less, i.gave, i.shown, i.ask, i.make, i.near)

  pub give_free : (s q : ℕ) → Real g (Made s q) → F (Give s) < P (Ask s) → F (Give s) ≡ P (Give s)
  give_free s q r less = let i : Line F P s q = line s q r in omega (arith, less, i.gave, i.ask, i.joined, i.make, i.near)

  pub return_free : (p : ℕ) → g.grants p ≡ true → F (Return p) < backs g P p → F (Return p) ≡ P (Return p)
  return_free p h less = let r : Ring g F P p = ring p h in omega (arith, less, r.gave, r.lent, r.token, r.gate, r.return, r.back, r.spread, r.take, r.high)

  pub token_free : (p : ℕ) → g.grants p ≡ true → F (Token p) < P (Return p) + start g p → F (Token p) ≡ P (Token p)
  token_free p h less = let r : Ring g F P p = ring p h in omega (arith, less, r.gave, r.lent, r.token, r.return, r.merged, r.back, r.spread, r.take, r.high)

  -- ---- each wire that is full may be handed over

  pub take_copied : (s p : ℕ) → Real g (Copy s p) → F (Take s) ≡ suc (P (Take s)) → P (Take s) ≡ F (Copy s p)
  take_copied s p r e = omega (arith, e, b.taken s p r, over (Copy s p), l.low (Copy s p))

  pub take_backed : (s p : ℕ) → g.grants p ≡ true → Among s (g.returns p) → F (Take s) ≡ suc (P (Take s)) → P (Take s) ≡ F (Back s p)
  take_backed s p h a e = omega (arith, e, back_near s p h a, over (Back s p), l.low (Back s p))

  pub copy_less : (s p : ℕ) → F (Copy s p) ≡ suc (P (Copy s p)) → P (Copy s p) < F (Take s)
  copy_less s p e = omega (arith, e, l.low (Copy s p), over (Take s))

  pub back_lands : (s p : ℕ) → g.grants p ≡ true → Among s (g.returns p) → F (Back s p) ≡ suc (P (Back s p)) → backs g P p ≡ F (Return p)
  back_lands s p h a e =
      let r : Ring g F P p = ring p h in
      let gap : backs g P p + F (Back s p) ≤ backs g F p + P (Back s p) = sum_gap (λ s. P (Back s p)) (λ s. F (Back s p)) (g.returns p) (λ s a. over (Back s p)) s a in
      omega (arith, e, gap, r.gave, r.lent, r.token, r.gate, r.return, r.merged, r.spread, r.take, r.high)

  pub made_lands : (s q : ℕ) → Real g (Made s q) → F (Made s q) ≡ suc (P (Made s q)) → P (Made s q) ≡ F (Ask s)
  made_lands s q r e = let i : Line F P s q = line s q r in omega (arith, e, i.gave, i.shown, i.ask, i.joined, i.near)

  pub ask_lands : (s q : ℕ) → Real g (Made s q) → F (Ask s) ≡ suc (P (Ask s)) → P (Ask s) ≡ F (Give s)
  ask_lands s q r e = let i : Line F P s q = line s q r in omega (arith, e, i.gave, i.shown, i.joined, i.make, i.near)

  pub return_lands : (p : ℕ) → g.grants p ≡ true → F (Return p) ≡ suc (P (Return p)) → P (Return p) + start g p ≡ F (Token p)
  return_lands p h e = let r : Ring g F P p = ring p h in omega (arith, e, r.gave, r.lent, r.token, r.gate, r.merged, r.back, r.spread, r.take, r.high)

  pub token_lands : (p : ℕ) → g.grants p ≡ true → F (Token p) ≡ suc (P (Token p)) → P (Token p) ≡ gifts g F p
  token_lands p h e = let r : Ring g F P p = ring p h in omega (arith, e, r.gave, r.lent, r.gate, r.return, r.merged, r.back, r.spread, r.take, r.high)

  pub give_made : (s q : ℕ) → Real g (Made s q) → F (Give s) ≡ suc (P (Give s)) → P (Give s) < F (Made s q)
  give_made s q r e = let i : Line F P s q = line s q r in omega (arith, e, i.shown, i.ask, i.joined, i.make)

  pub give_granted : (s p : ℕ) → g.grants p ≡ true → Among s (g.requests p) → F (Give s) ≡ suc (P (Give s)) → gifts g P p < asked g F p + start g p
  give_granted s p h a e =
      let r : Ring g F P p = ring p h in
      let gap : gifts g P p + F (Give s) ≤ gifts g F p + P (Give s) = sum_gap (λ s. P (Give s)) (λ s. F (Give s)) (g.requests p) (λ s a. over (Give s)) s a in
      omega (arith, e, gap, r.lent, r.token, r.gate, r.return, r.merged, r.back, r.spread, r.take)
