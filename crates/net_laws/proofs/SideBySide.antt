-- FORKs side by side, by the law of charts.
use Rattle.std.proofs.Common.{◌≡◌, ◌↔◌, ℕ, zero, suc, ◌+◌, ◌-◌, ◌*◌, ◌<◌, ◌≤◌, ◌^◌, Bool, true, false, List, [], ◌∷◌, ◌++◌, map, length, get_or, replicate, ◌⊎◌, inl, inr, refl, sym, ap, subst, ◌∙◌, arith, length-append}
use Rattle.std.specs.Prelude.{IsTrue}
use Rattle.std.specs.List.{AllByRecursion, range_with_len}
use Rattle.std.proofs.lemmas.Bool.{cases_lt}
use Rattle.std.proofs.lemmas.List.{map-append, get_or_append_left, get_or-append_right}
use Rattle.std.proofs.lemmas.List.FromFn.{length-map-range_with_len, get_or-map-range_with_len}
use native.Mathlib.Decide.{ℕ_discrete}
use Rattle.cmd_tree.specs.Rounds.{same_number, tally, naught, Rounds}
use Rattle.cmd_tree.proofs.RoundsPorts.{rounds_ports}
use Rattle.basic_kinds.specs.declared.kind.Kind.TheVariants as kind
use Rattle.net_core.specs.declared.spec.NodeSpec.{NodeSpec}
use Rattle.net_core.specs.declared.spec.NodeSpec.TheVariants.{Kind as Basic}
use Rattle.net_core.specs.Specs.{sides, outs_of, IsFormed, May, is_kind}
use Rattle.net_core.specs.Wiring.{Node, Circuit}
use Rattle.net_laws.specs.Charts.{Chart, node_of, charted}
use Rattle.net_laws.specs.Implementing.{Implements}
use Rattle.net_laws.specs.ForksNets.{ForksAt, Forks, fork_part, forks_net}
use Rattle.net_laws.proofs.Webs.{Web, numbers_decide, Decides, test, test_decides, WebSound, WebExact}
use Rattle.net_laws.proofs.Webs as webs
use Rattle.net_laws.proofs.Told.{Lawful, Flows}
use Rattle.net_laws.proofs.Woven.{Grew, grew_le, grew_other, Reads, Counting, Keeps, Draws, give, show, web_sound, web_exact}
use Rattle.net_laws.proofs.Paths.{Path, here}
use Rattle.net_laws.proofs.Among.{Among, Distinct, all_among}
use Rattle.net_laws.proofs.Routes.{Joined, Routes, routes_basic, routes_clean, routes_correct}
use Rattle.net_laws.proofs.Rows.{row, rows, among_row, row_among, row_all, distinct_row, number_row, range_both, among_left, among_right, all_both, distinct_both, joined_outs, joined_ins, joined_both, block_low, block_of, rows_long, among_rows, rows_among, rows_all, distinct_rows, number_rows, rows_at}
use Rattle.net_laws.proofs.Rules.{RoundsOn, counted, rounds_spec}

-- The wires: the request of FORK i, and what it puts out.
pub data Wire : Type 0 where
  Req : ℕ → Wire
  Put : ℕ → ℕ → Wire
  deriving Discrete as wire_discrete

abbrev same_wire : Wire → Wire → Bool
same_wire = test (wire_discrete ℕ_discrete)

wires_decide : Decides same_wire
wires_decide = test_decides (wire_discrete ℕ_discrete)

-- node 0 is the environment, node i + 1 the FORK i
abbrev driver : Wire → ℕ
driver (Req i) = 0
driver (Put i j) = suc i

abbrev receiver : Wire → ℕ
receiver (Req i) = suc i
receiver (Put i j) = 0

abbrev fork_of : Wire → ℕ
fork_of (Req i) = i
fork_of (Put i j) = i

abbrev At : ℕ → ℕ → (Wire → ℕ) → Wire → Type 0
At k m c (Req i) = (i < k) × ((j : ℕ) → j < m → c (Req i) ≡ c (Put i j))
At k m c (Put i j) = (i < k) × (j < m) × (c (Put i j) < c (Req i))

abbrev Rule : ℕ → ℕ → ℕ → (Wire → ℕ) → Wire → Type 0
Rule k m zero c w = At k m c w
Rule k m (suc n) c w = (fork_of w ≡ n) × At k m c w

abbrev web : ℕ → ℕ → Web ℕ Wire
web k m = record {
  same_node = same_number;
  same_wire = same_wire;
  driver = driver;
  receiver = receiver;
  outside = 0;
  rule = λ n t w. Rule k m n (tally same_wire naught t) w;
}

abbrev There : ℕ → ℕ → Wire → Type 0
There k m (Req i) = i < k
There k m (Put i j) = (i < k) × (j < m)

-- ---- the web is sound and exact

module _ (k m : ℕ) (some : 0 < m) where
  lawful : Lawful ℕ Wire (web k m)
  lawful = record { nodes = numbers_decide; wires = wires_decide; clean = clean }
    where
      clean : (w : Wire) → driver w ≡ receiver w → ⊥
      clean (Req i) e = omega arith
      clean (Put i j) e = omega arith

  counting : Counting ℕ Wire (web k m) (Rule k m)
  counting = record { there = λ n t w h. h; back = λ n t w h. h }

  record Inv (F P : Wire → ℕ) : Type 0 where
    row_kept : (i j : ℕ) → i < k → j < m → F (Req i) ≤ suc (P (Put i j))
    col_kept : (i j : ℕ) → i < k → j < m → F (Put i j) ≤ P (Req i)

  sends : (F P c : Wire → ℕ) (w : Wire) → Flows F P → Inv F P → Reads ℕ Wire (web k m) (driver w) c F P → Rule k m (driver w) c w
      → There k m w × (F w ≡ P w) × ((G : Wire → ℕ) → Grew F w G → Inv G P)
  sends F P c (Req i) f h a r = (
    r.0,
    omega (arith, h.col_kept i 0 r.0 some, r.1 0 some, a.sent (Req i) refl, a.got (Put i 0) refl, f (Put i 0), f (Req i)),
    λ G g. record {
      row_kept = λ b j x y. row_next G b j x y (g (Req b));
      col_kept = λ b j x y. subst (λ z. z ≤ P (Req b)) (sym (grew_other F (Req i) G g (Put b j) (λ e. cc))) (h.col_kept b j x y);
    },
  )
    where
      row_next : (G : Wire → ℕ) → (b j : ℕ) → b < k → j < m
          → ((Req b ≡ Req i) × (G (Req b) ≡ suc (F (Req b)))) ⊎ ((Req b ≡ Req i → ⊥) × (G (Req b) ≡ F (Req b))) → G (Req b) ≤ suc (P (Put b j))
      row_next G b j x y (inl (p, e)) =
          let same : b ≡ i = cc in
          omega (arith, ap F p, r.1 j y, a.sent (Req i) refl, a.got (Put i j) refl, ap (λ z. P (Put z j)) same)
      row_next G b j x y (inr (p, e)) = omega (arith, h.row_kept b j x y)
  sends F P c (Put i j) f h a r = (
    (r.1.0, r.1.1),
    omega (arith, h.row_kept i j r.1.0 r.1.1, r.1.2, a.sent (Put i j) refl, a.got (Req i) refl, f (Put i j), f (Req i)),
    λ G g. record {
      row_kept = λ b o x y. subst (λ z. z ≤ suc (P (Put b o))) (sym (grew_other F (Put i j) G g (Req b) (λ e. cc))) (h.row_kept b o x y);
      col_kept = λ b o x y. col_next G b o x y (g (Put b o));
    },
  )
    where
      col_next : (G : Wire → ℕ) → (b o : ℕ) → b < k → o < m
          → ((Put b o ≡ Put i j) × (G (Put b o) ≡ suc (F (Put b o)))) ⊎ ((Put b o ≡ Put i j → ⊥) × (G (Put b o) ≡ F (Put b o))) → G (Put b o) ≤ P (Req b)
      col_next G b o x y (inl (p, e)) =
          let same : b ≡ i = cc in
          omega (arith, ap F p, r.1.2, a.sent (Put i j) refl, a.got (Req i) refl, ap (λ z. P (Req z)) same)
      col_next G b o x y (inr (p, e)) = omega (arith, h.col_kept b o x y)

  lands : (F P c : Wire → ℕ) (w : Wire) → Flows F P → Inv F P → Reads ℕ Wire (web k m) (receiver w) c F P → There k m w → F w ≡ suc (P w)
      → Rule k m (receiver w) c w × ((Q : Wire → ℕ) → Grew P w Q → Inv F Q)
  lands F P c w f h a x e = (
    takes w x e a,
    λ Q g. record {
      row_kept = λ i j x y. omega (arith, h.row_kept i j x y, grew_le P w Q g (Put i j));
      col_kept = λ i j x y. omega (arith, h.col_kept i j x y, grew_le P w Q g (Req i));
    },
  )
    where
      takes : (w : Wire) → There k m w → F w ≡ suc (P w) → Reads ℕ Wire (web k m) (receiver w) c F P → Rule k m (receiver w) c w
      takes (Req i) x e a = (refl, (x, λ j y. omega (arith, h.row_kept i j x y, h.col_kept i j x y, f (Put i j), a.got (Req i) refl, a.sent (Put i j) refl)))
      takes (Put i j) x e a = (x.0, x.1, omega (arith, h.row_kept i j x.0 x.1, h.col_kept i j x.0 x.1, f (Req i), a.got (Put i j) refl, a.sent (Req i) refl))

  keeps : Keeps ℕ Wire (web k m) (Rule k m) (There k m) Inv
  keeps = record {
    begins = λ F P f p. record { row_kept = λ i j x y. omega (arith, f (Req i)); col_kept = λ i j x y. omega (arith, f (Put i j)) };
    sends = sends;
    lands = lands;
  }

  abbrev Always : (Wire → ℕ) → Type 0
  Always x = Unit {0}

  draws : (x c : Wire → ℕ) (q : Wire) → Inv x x → Always x → Reads ℕ Wire (web k m) 0 c x x → Rule k m 0 c q → Draws ℕ Wire (web k m) (Rule k m) Inv Always q x
  draws x c (Req i) h j a r = give refl (λ y g k. tt)
  draws x c (Put i o) h j a r =
      show refl (λ b z. (refl, (r.0, r.1, omega (arith, r.2, a.got (Put i o) refl, a.sent (Req i) refl, z.sent (Put i o) refl, z.got (Req i) refl)))) (λ y g k. tt)

  sound : WebSound (web k m)
  sound = web_sound ℕ Wire (web k m) (Rule k m) (There k m) Inv lawful counting keeps

  exact : WebExact (web k m)
  exact = web_exact ℕ Wire (web k m) (Rule k m) (There k m) Inv Always lawful counting keeps tt draws

-- ---- the chart

abbrev ports_at : ℕ → ℕ → ℕ → List Wire
ports_at k m zero = row Req k ++ rows Put k m
ports_at k m (suc n) = Req n ∷ row (Put n) m

one_put : (i j a b : ℕ) → Put i j ≡ Put a b → (i ≡ a) × (j ≡ b)
one_put i j a b e = (cc, cc)

env_distinct : (k m : ℕ) → Distinct (row Req k ++ rows Put k m)
env_distinct k m = distinct_both (row Req k) (rows Put k m) (distinct_row Req (λ i j e. cc) k) (distinct_rows Put m one_put k)
    (λ x a b. let (i, low, e) = among_row Req k x a in let (j, o, high, in_row, f) = among_rows Put m k x b in cc)

fork_distinct : (n m : ℕ) → Distinct (Req n ∷ row (Put n) m)
fork_distinct n m = ((λ a. let (j, low, e) = among_row (Put n) m (Req n) a in cc), distinct_row (Put n) (λ i j e. cc) m)

module _ (k m : ℕ) where
  abbrev ports : List Wire
  ports = row Req k ++ rows Put k m

  abbrev label : ℕ → Wire
  label p = get_or ports p (Req k)

  long_req : length (row Req k) ≡ k
  long_req = length-map-range_with_len Req 0 k

  long : length ports ≡ k + k * m
  long = length-append (row Req k) (rows Put k m) ∙ omega (arith, long_req, rows_long Put m k)

  label_req : (i : ℕ) → i < k → label i ≡ Req i
  label_req i low = get_or_append_left (row Req k) (rows Put k m) (Req k) i (omega (arith, long_req)) ∙ get_or-map-range_with_len Req 0 k i i (Req k) low (omega arith)

  label_put : (i j : ℕ) → i < k → j < m → label (k + (i * m + j)) ≡ Put i j
  label_put i j low in_row =
      let place : k + (i * m + j) - k ≡ i * m + j = omega arith in
      get_or-append_right (row Req k) (rows Put k m) k (k + (i * m + j)) (Req k) long_req (omega arith)
      ∙ ap (λ q. get_or (rows Put k m) q (Req k)) place ∙ rows_at Put m (Req k) k i j low in_row

  env_agree : (c : ℕ → ℕ) (e : Wire → ℕ) → ((p : ℕ) → p < length ports → c p ≡ e (label p)) → (p : ℕ) → p < length ports → ForksAt k m c p ↔ At k m e (label p)
  env_agree c e h p low = (there, back)
    where
      req_is : (i : ℕ) → i < k → c i ≡ e (Req i)
      req_is i x = h i (omega (arith, long)) ∙ ap e (label_req i x)

      put_is : (i j : ℕ) → i < k → j < m → c (k + (i * m + j)) ≡ e (Put i j)
      put_is i j x y = h (k + (i * m + j)) (omega (arith, long, block_low k m i j x y)) ∙ ap e (label_put i j x y)

      there : ((p < k) × ((j : ℕ) → j < m → c p ≡ c (k + (p * m + j))))
          ⊎ ((i : ℕ) × (j : ℕ) × (i < k) × (j < m) × (p ≡ k + (i * m + j)) × (c p < c i)) → At k m e (label p)
      there (inl (x, f)) = subst (λ w. At k m e w) (sym (label_req p x)) (x, (λ j y. sym (req_is p x) ∙ f j y ∙ put_is p j x y))
      there (inr (i, j, x, y, at, less)) =
          subst (λ w. At k m e w) (sym (ap label at ∙ label_put i j x y)) (x, y, omega (arith, ap c at, put_is i j x y, req_is i x))

      back : At k m e (label p) → ForksAt k m c p
      back r = elim (cases_lt p k) [
        | inl x ↦
            let s : At k m e (Req p) = subst (λ w. At k m e w) (label_req p x) r in
            inl (x, (λ j y. req_is p x ∙ s.1 j y ∙ sym (put_is p j x y)))
        | inr past ↦
            let (i, j, x, y, at) = block_of k m (p - k) (omega (arith, long)) in
            let place : p ≡ k + (i * m + j) = omega arith in
            let s : At k m e (Put i j) = subst (λ w. At k m e w) (ap label place ∙ label_put i j x y) r in
            inr (i, j, x, y, place, omega (arith, ap c place, put_is i j x y, req_is i x, s.2))
      ]

  env_inside : (c : ℕ → ℕ) (p : ℕ) → ForksAt k m c p → p < length ports
  env_inside c p (inl (x, f)) = omega (arith, long)
  env_inside c p (inr (i, j, x, y, at, less)) = omega (arith, long, block_low k m i j x y)

  env_may : (M : List ℕ → Type 0) → ((t : List ℕ) → M t ↔ Forks k m t) → (t : List ℕ) → M t ↔ webs.May (web k m) 0 (map label t)
  env_may M traces t =
      let both = counted same_wire wires_decide ports (env_distinct k m) (Req k) (ForksAt k m) (At k m) env_inside (λ e r. let z = r.0 in omega arith) env_agree t in
      ((λ h. both.0 ((traces t).0 h)), (λ h. (traces t).1 (both.1 h)))

  fork_on : (n : ℕ) → n < k → (e : Wire → ℕ) (w : Wire) → Rule k m (suc n) e w ↔ RoundsOn (Req n ∷ []) (row (Put n) m) e w
  fork_on n low e (Req i) = (there, back)
    where
      there : (i ≡ n) × At k m e (Req i) → RoundsOn (Req n ∷ []) (row (Put n) m) e (Req i)
      there (same, (x, f)) = inl (inl (ap Req same), row_all (λ o. e (Req i) ≡ e o) (Put n) m (λ j y. f j y ∙ ap (λ z. e (Put z j)) same))

      back : RoundsOn (Req n ∷ []) (row (Put n) m) e (Req i) → (i ≡ n) × At k m e (Req i)
      back (inl (inl is, f)) =
          let same : i ≡ n = cc in
          (same, (omega arith, (λ j y. all_among (λ o. e (Req i) ≡ e o) (row (Put n) m) f (Put n j) (row_among (Put n) m j y) ∙ ap (λ z. e (Put z j)) (sym same))))
      back (inl (inr h, f)) = absurd h
      back (inr (a, f)) = let (j, y, is) = among_row (Put n) m (Req i) a in absurd (cc)
  fork_on n low e (Put i o) = (there, back)
    where
      there : (i ≡ n) × At k m e (Put i o) → RoundsOn (Req n ∷ []) (row (Put n) m) e (Put i o)
      there (same, (x, y, less)) =
          inr (subst (λ z. Among (Put z o) (row (Put n) m)) (sym same) (row_among (Put n) m o y), (subst (λ z. e (Put i o) < e (Req z)) same less, tt))

      back : RoundsOn (Req n ∷ []) (row (Put n) m) e (Put i o) → (i ≡ n) × At k m e (Put i o)
      back (inl (inl is, f)) = absurd (cc)
      back (inl (inr h, f)) = absurd h
      back (inr (a, f)) =
          let (j, y, is) = among_row (Put n) m (Put i o) a in
          let (same, also) = one_put i o n j is in
          (same, (omega arith, omega arith, subst (λ z. e (Put i o) < e (Req z)) (sym same) f.0))

fork_traces : (m : ℕ) → 0 < m → (t : List ℕ) → May (Basic (kind.Fork m)) t ↔ Rounds 1 m t
unfolding May
fork_traces m h t = rounds_ports 1 m (omega arith) h t

module _ (s : NodeSpec) (k m : ℕ) (wide : 2 ≤ m) (few : m < 2 ^ 27) (formed : IsFormed s) (outs : outs_of s ≡ sides k (k * m))
    (traces : (t : List ℕ) → May s t ↔ Forks k m t) where
  some : 0 < m
  some = omega arith

  abbrev spec_at : ℕ → NodeSpec
  spec_at zero = s
  spec_at (suc n) = Basic (kind.Fork m)

  abbrev number : Wire → ℕ
  number (Req i) = i
  number (Put i j) = k + (i * m + j)

  abbrev chart : Chart ℕ Wire
  chart = record { env = 0; parts = row suc k; spec = spec_at; ports = ports_at k m; number = number; many = k + k * m }

  abbrev lines : List Wire
  lines = row Req k ++ rows Put k m

  abbrev Kept : ℕ → Type 0
  Kept n = Unit {0}

  lines_all : (P : Wire → Type 0) → ((w : Wire) → There k m w → P w) → AllByRecursion P lines
  lines_all P h = all_both P (row Req k) (rows Put k m) (row_all P Req k (λ i low. h (Req i) low)) (rows_all Put m P k (λ i j low y. h (Put i j) (low, y)))

  lines_among : (w : Wire) → There k m w → Among w lines
  lines_among (Req i) t = among_left (Req i) (row Req k) (rows Put k m) (row_among Req k i t)
  lines_among (Put i j) t = among_right (Put i j) (row Req k) (rows Put k m) (rows_among Put m k i j t.0 t.1)

  node_among : (i : ℕ) → i < k → Among {A = ℕ} (suc i) (0 ∷ row suc k)
  node_among i h = inr (row_among suc k i h)

  routes : Routes ℕ Wire (web k m) Kept (There k m) chart lines (λ w. w) (λ w. w) (λ w. w) (Req k)
  routes = record {
    env = refl;
    nodes = ((λ a. let (i, low, e) = among_row suc k 0 a in omega arith), distinct_row suc (λ i j e. omega arith) k);
    formed = (formed, row_all (λ n. IsFormed (spec_at n)) suc k (λ i h. record { wide = wide; few = omega arith }));
    outer = subst (λ b. Joined receiver driver 0 b lines) (sym outs)
        (joined_both receiver driver 0 (replicate k false) (replicate (k * m) true) (row Req k) (rows Put k m)
        (joined_ins receiver driver 0 k (row Req k) (long_req k m) (row_all (λ w. driver w ≡ 0) Req k (λ i h. refl)))
        (joined_outs receiver driver 0 (k * m) (rows Put k m) (rows_long Put m k) (rows_all Put m (λ w. receiver w ≡ 0) k (λ i j h l. refl))));
    inner = row_all (λ n. Joined driver receiver n (outs_of (spec_at n)) (ports_at k m n)) suc k (λ i h.
        (refl, joined_outs driver receiver (suc i) m (row (Put i) m) (length-map-range_with_len (Put i) 0 m) (row_all (λ w. driver w ≡ suc i) (Put i) m (λ j l. refl))));
    distinct = (env_distinct k m, row_all (λ n. Distinct (ports_at k m n)) suc k (λ i h. fork_distinct i m));
    kept = (tt, row_all Kept suc k (λ i h. tt));
    there = (
      lines_all (There k m) (λ w t. t),
      row_all (λ n. AllByRecursion (There k m) (ports_at k m n)) suc k (λ i h.
          (h, row_all (There k m) (Put i) m (λ j l. (h, l)))),
    );
    driven = driven;
    received = received;
    numbers = map-append number (row Req k) (rows Put k m) ∙ ap (λ l. l ++ map number (rows Put k m)) (number_row number Req 0 k (λ i h. omega arith))
        ∙ ap (λ l. range_with_len 0 k ++ l) (number_rows Put m number (0 + k) k (λ i j h l. omega arith)) ∙ range_both 0 k (k * m);
    number_root = λ w t. refl;
    begins = λ w t n. (lines_among w t, refl);
    ends = λ w t n. (lines_among w t, refl);
    firsts = lines_all (λ v. There k m v × Unit {0} × (v ≡ v)) (λ w t. (t, tt, refl));
    lasts = lines_all (λ v. There k m v × Unit {0} × (v ≡ v)) (λ w t. (t, tt, refl));
    path = lines_all (λ v. Path ℕ Wire (web k m) Kept v v) (λ w t. here w);
    apart = lines_all (λ v. driver v ≡ receiver v → ⊥) (λ w t. (lawful k m some).clean w);
    real_out = real_out;
    real_in = real_in;
    enters = λ w t. inl tt;
    leaves = λ w t. inl tt;
    never = never;
    may = (env_may k m (May s) traces, row_all (λ n. (t : List ℕ) → May (spec_at n) t ↔ webs.May (web k m) n (map (λ p. get_or (ports_at k m n) p (Req k)) t)) suc k part_may);
  }
    where
      driven : (w : Wire) → There k m w → Unit {0} → Among {A = ℕ} (driver w) (0 ∷ row suc k) × Among w (ports_at k m (driver w))
      driven (Req i) t n = (inl refl, lines_among (Req i) t)
      driven (Put i j) t n = (node_among i t.0, inr (row_among (Put i) m j t.1))

      received : (w : Wire) → There k m w → Unit {0} → Among {A = ℕ} (receiver w) (0 ∷ row suc k) × Among w (ports_at k m (receiver w))
      received (Req i) t n = (node_among i t, inl refl)
      received (Put i j) t n = (inl refl, lines_among (Put i j) t)

      real_out : (w : Wire) (t : List Wire) → (web k m).rule (driver w) t w → There k m w
      real_out (Req i) t r = r.0
      real_out (Put i j) t r = (r.1.0, r.1.1)

      real_in : (w : Wire) (t : List Wire) → (web k m).rule (receiver w) t w → There k m w
      real_in (Req i) t r = r.1.0
      real_in (Put i j) t r = (r.0, r.1)

      never : (n : ℕ) (t : List Wire) → (web k m).rule n t (Req k) → ⊥
      never zero t r = let z = r.0 in omega arith
      never (suc n) t r = let z = r.1.0 in omega arith

      part_may : (i : ℕ) → i < k → (t : List ℕ) → May (Basic (kind.Fork m)) t ↔ webs.May (web k m) (suc i) (map (λ p. get_or (Req i ∷ row (Put i) m) p (Req k)) t)
      part_may i h t =
          let both = rounds_spec same_wire wires_decide (Req i ∷ []) (row (Put i) m) (Req k) 1 m refl (length-map-range_with_len (Put i) 0 m) (fork_distinct i m) (Rule k m (suc i))
          (λ e r. let z = r.1.0 in omega arith) (fork_on k m i h) t in
          ((λ x. both.0 ((fork_traces m some t).0 x)), (λ x. (fork_traces m some t).1 (both.1 x)))

  -- the parts as the code makes them
  part_is : (i : ℕ) → node_of chart (suc i) ≡ fork_part k m i
  part_is i = ap (λ l. record { spec = Basic (kind.Fork m); ends = i ∷ l }) (number_row number (Put i) (k + i * m) m (λ j l. omega arith))

  parts_are : (a l : ℕ) → map (node_of chart) (map suc (range_with_len a l)) ≡ map (fork_part k m) (range_with_len a l)
  parts_are a zero = refl
  parts_are a (suc l) =
      ap (λ (x : Node). x ∷ map (node_of chart) (map suc (range_with_len (a + 1) l))) (part_is a)
      ∙ ap (λ (xs : List Node). fork_part k m a ∷ xs) (parts_are (a + 1) l)

  net_is : charted chart ≡ forks_net s k m
  net_is =
      ap (λ l. record { nodes = record { spec = s; ends = l } ∷ map (node_of chart) (row suc k); wires = k + k * m })
      (map-append number (row Req k) (rows Put k m) ∙ ap (λ l. l ++ map number (rows Put k m)) (number_row number Req 0 k (λ i h. omega arith))
      ∙ ap (λ l. range_with_len 0 k ++ l) (number_rows Put m number (0 + k) k (λ i j h l. omega arith)) ∙ range_both 0 k (k * m))
      ∙ ap (λ (xs : List Node). record { nodes = record { spec = s; ends = range_with_len 0 (k + k * m) } ∷ xs; wires = k + k * m }) (parts_are 0 k)

  pub forks_right : Implements (forks_net s k m) s
  forks_right = subst (λ (c : Circuit). Implements c s) net_is (record {
    basic = routes_basic ℕ Wire (web k m) Kept (There k m) chart lines (λ w. w) (λ w. w) (λ w. w) (Req k) (lawful k m some) routes
        (row_all (λ n. IsTrue (is_kind (spec_at n))) suc k (λ i h. refl));
    clean = routes_clean ℕ Wire (web k m) Kept (There k m) chart lines (λ w. w) (λ w. w) (λ w. w) (Req k) (lawful k m some) routes;
    correct = routes_correct ℕ Wire (web k m) Kept (There k m) chart lines (λ w. w) (λ w. w) (λ w. w) (Req k) (lawful k m some) routes (sound k m some) (exact k m some);
  })
