-- A join of n inputs before a fork of m outputs, by the law of charts; where n or m is one, the join or the fork is left out.
use Rattle.std.proofs.Common.{◌≡◌, ◌↔◌, ℕ, zero, suc, ◌+◌, ◌<◌, ◌≤◌, ◌^◌, Bool, true, false, List, [], ◌∷◌, ◌++◌, map, length, get_or, replicate, ◌⊎◌, inl, inr, refl, sym, ap, subst, ◌∙◌, arith}
use Rattle.std.specs.List.{AllByRecursion, range_with_len}
use Rattle.std.proofs.lemmas.List.{map-append}
use Rattle.std.proofs.lemmas.List.FromFn.{length-map-range_with_len}
use Rattle.cmd_tree.specs.Rounds.{tally, naught, Rounds}
use Rattle.cmd_tree.proofs.RoundsPorts.{rounds_ports}
use Rattle.basic_kinds.specs.declared.kind.Kind.{Kind}
use Rattle.basic_kinds.specs.declared.kind.Kind.TheVariants as kind
use Rattle.net_core.specs.declared.spec.NodeSpec.{NodeSpec}
use Rattle.net_core.specs.declared.spec.NodeSpec.TheVariants.{Kind as Basic}
use Rattle.net_core.specs.Specs.{sides, outs_of, IsFormed, May}
use Rattle.net_core.specs.Wiring.{Circuit}
use Rattle.net_laws.specs.Charts.{Chart, charted}
use Rattle.net_laws.specs.Implementing.{Implements}
use Rattle.net_laws.specs.RoundsNets.{one_net, join_fork_net, rounds_net}
use Rattle.net_laws.proofs.Webs as webs
use Rattle.net_laws.proofs.JoinForkWeb.{Wire, In, Out, Mid, same_wire, wires_decide, AtRounds, AtJoin, AtSpread, two_web, two_driver, two_receiver, two_lawful, two_sound, two_exact}
use Rattle.net_laws.proofs.Paths.{Hop, Path, here, hop}
use Rattle.net_laws.proofs.Among.{Among, Distinct, all_among}
use Rattle.net_laws.proofs.Routes.{Joined, Routes, routes_basic, routes_clean, routes_correct}
use Rattle.net_laws.proofs.Rows.{row, among_row, row_among, row_all, distinct_row, number_row, range_both, among_left, among_right, all_both, distinct_both, joined_outs, joined_ins, joined_both}
use Rattle.net_laws.proofs.Rules.{RoundsOn, rounds_spec}

in_low : (n i : ℕ) → Among (In i) (row In n) → i < n
in_low n i a = let (k, low, e) = among_row In n (In i) a in let z : i ≡ k = cc in omega arith

out_low : (m j : ℕ) → Among (Out j) (row Out m) → j < m
out_low m j a = let (k, low, e) = among_row Out m (Out j) a in let z : j ≡ k = cc in omega arith

out_in : (n j : ℕ) → Among (Out j) (row In n) → ⊥
out_in n j a = let (k, low, e) = among_row In n (Out j) a in cc

mid_in : (n : ℕ) → Among Mid (row In n) → ⊥
mid_in n a = let (k, low, e) = among_row In n Mid a in cc

in_out : (m i : ℕ) → Among (In i) (row Out m) → ⊥
in_out m i a = let (k, low, e) = among_row Out m (In i) a in cc

mid_out : (m : ℕ) → Among Mid (row Out m) → ⊥
mid_out m a = let (k, low, e) = among_row Out m Mid a in cc

in_mid : (i : ℕ) → Among (In i) (Mid ∷ []) → ⊥
in_mid i (inl e) = cc
in_mid i (inr h) = h

out_mid : (j : ℕ) → Among (Out j) (Mid ∷ []) → ⊥
out_mid j (inl e) = cc
out_mid j (inr h) = h

-- ---- the rules of the web by lists

env_on : (n m : ℕ) (e : Wire → ℕ) (w : Wire) → AtRounds n m e w ↔ RoundsOn (row In n) (row Out m) e w
env_on n m e (In i) = ((λ r. inl (row_among In n i r.0, row_all (λ o. e (In i) ≡ e o) Out m r.1)), back)
  where
    back : RoundsOn (row In n) (row Out m) e (In i) → AtRounds n m e (In i)
    back (inl (a, f)) = (in_low n i a, (λ j y. all_among (λ o. e (In i) ≡ e o) (row Out m) f (Out j) (row_among Out m j y)))
    back (inr (a, f)) = absurd (in_out m i a)
env_on n m e (Out j) = ((λ r. inr (row_among Out m j r.0, row_all (λ i. e (Out j) < e i) In n r.1)), back)
  where
    back : RoundsOn (row In n) (row Out m) e (Out j) → AtRounds n m e (Out j)
    back (inl (a, f)) = absurd (out_in n j a)
    back (inr (a, f)) = (out_low m j a, (λ i y. all_among (λ i. e (Out j) < e i) (row In n) f (In i) (row_among In n i y)))
env_on n m e Mid = ((λ r. absurd r), back)
  where
    back : RoundsOn (row In n) (row Out m) e Mid → ⊥
    back (inl (a, f)) = mid_in n a
    back (inr (a, f)) = mid_out m a

join_on : (n : ℕ) (e : Wire → ℕ) (w : Wire) → AtJoin n e w ↔ RoundsOn (row In n) (Mid ∷ []) e w
join_on n e (In i) = ((λ r. inl (row_among In n i r.0, (r.1, tt))), back)
  where
    back : RoundsOn (row In n) (Mid ∷ []) e (In i) → AtJoin n e (In i)
    back (inl (a, f)) = (in_low n i a, f.0)
    back (inr (a, f)) = absurd (in_mid i a)
join_on n e (Out j) = ((λ r. absurd r), back)
  where
    back : RoundsOn (row In n) (Mid ∷ []) e (Out j) → ⊥
    back (inl (a, f)) = out_in n j a
    back (inr (a, f)) = out_mid j a
join_on n e Mid = ((λ r. inr (inl refl, row_all (λ i. e Mid < e i) In n r)), back)
  where
    back : RoundsOn (row In n) (Mid ∷ []) e Mid → AtJoin n e Mid
    back (inl (a, f)) = absurd (mid_in n a)
    back (inr (a, f)) = λ i y. all_among (λ i. e Mid < e i) (row In n) f (In i) (row_among In n i y)

spread_on : (m : ℕ) (e : Wire → ℕ) (w : Wire) → AtSpread m e w ↔ RoundsOn (Mid ∷ []) (row Out m) e w
spread_on m e (In i) = ((λ r. absurd r), back)
  where
    back : RoundsOn (Mid ∷ []) (row Out m) e (In i) → ⊥
    back (inl (a, f)) = in_mid i a
    back (inr (a, f)) = in_out m i a
spread_on m e (Out j) = ((λ r. inr (row_among Out m j r.0, (r.1, tt))), back)
  where
    back : RoundsOn (Mid ∷ []) (row Out m) e (Out j) → AtSpread m e (Out j)
    back (inl (a, f)) = absurd (out_mid j a)
    back (inr (a, f)) = (out_low m j a, f.0)
spread_on m e Mid = ((λ r. inl (inl refl, row_all (λ o. e Mid ≡ e o) Out m r)), back)
  where
    back : RoundsOn (Mid ∷ []) (row Out m) e Mid → AtSpread m e Mid
    back (inl (a, f)) = λ j y. all_among (λ o. e Mid ≡ e o) (row Out m) f (Out j) (row_among Out m j y)
    back (inr (a, f)) = absurd (mid_out m a)

-- ---- the wires at the ports

long_row : (f : ℕ → Wire) (k : ℕ) → length (row f k) ≡ k
long_row f k = length-map-range_with_len f 0 k

distinct_in : (n : ℕ) → Distinct (row In n)
distinct_in n = distinct_row In (λ i j e. cc) n

distinct_out : (m : ℕ) → Distinct (row Out m)
distinct_out m = distinct_row Out (λ i j e. cc) m

env_distinct : (n m : ℕ) → Distinct (row In n ++ row Out m)
env_distinct n m = distinct_both (row In n) (row Out m) (distinct_in n) (distinct_out m)
    (λ x a b. let (i, low, e) = among_row In n x a in let (j, high, f) = among_row Out m x b in cc)

join_distinct : (n : ℕ) → Distinct (row In n ++ Mid ∷ [])
join_distinct n = distinct_both (row In n) (Mid ∷ []) (distinct_in n) ((λ h. h), tt) (λ x a b. apart x a b)
  where
    apart : (x : Wire) → Among x (row In n) → Among x (Mid ∷ []) → ⊥
    apart x a (inl e) = mid_in n (subst (λ y. Among y (row In n)) e a)
    apart x a (inr h) = h

spread_distinct : (m : ℕ) → Distinct (Mid ∷ row Out m)
spread_distinct m = (mid_out m, distinct_out m)

abbrev ports_at : ℕ → ℕ → ℕ → List Wire
ports_at n m zero = row In n ++ row Out m
ports_at n m (suc zero) = row In n ++ Mid ∷ []
ports_at n m (suc (suc k)) = Mid ∷ row Out m

abbrev There : ℕ → ℕ → Wire → Type 0
There n m (In i) = i < n
There n m (Out j) = j < m
There n m Mid = Unit {0}

module _ (n m : ℕ) where
  there_env : AllByRecursion (There n m) (row In n ++ row Out m)
  there_env = all_both (There n m) (row In n) (row Out m) (row_all (There n m) In n (λ i h. h)) (row_all (There n m) Out m (λ j h. h))

  there_join : AllByRecursion (There n m) (row In n ++ Mid ∷ [])
  there_join = all_both (There n m) (row In n) (Mid ∷ []) (row_all (There n m) In n (λ i h. h)) (tt, tt)

  there_spread : AllByRecursion (There n m) (Mid ∷ row Out m)
  there_spread = (tt, row_all (There n m) Out m (λ j h. h))

  env_joined : (bs : List Bool) → bs ≡ sides n m → Joined two_receiver two_driver 0 bs (row In n ++ row Out m)
  env_joined bs e = subst (λ b. Joined two_receiver two_driver 0 b (row In n ++ row Out m)) (sym e)
      (joined_both two_receiver two_driver 0 (replicate n false) (replicate m true) (row In n) (row Out m)
      (joined_ins two_receiver two_driver 0 n (row In n) (long_row In n) (row_all (λ w. two_driver w ≡ 0) In n (λ i h. refl)))
      (joined_outs two_receiver two_driver 0 m (row Out m) (long_row Out m) (row_all (λ w. two_receiver w ≡ 0) Out m (λ j h. refl))))

  join_joined : Joined two_driver two_receiver 1 (sides n 1) (row In n ++ Mid ∷ [])
  join_joined =
      joined_both two_driver two_receiver 1 (replicate n false) (true ∷ []) (row In n) (Mid ∷ [])
      (joined_ins two_driver two_receiver 1 n (row In n) (long_row In n) (row_all (λ w. two_receiver w ≡ 1) In n (λ i h. refl))) (refl, tt)

  spread_joined : (bs : List Bool) → bs ≡ sides 1 m → Joined two_driver two_receiver 2 bs (Mid ∷ row Out m)
  spread_joined bs e = subst (λ b. Joined two_driver two_receiver 2 b (Mid ∷ row Out m)) (sym e)
      (refl, joined_outs two_driver two_receiver 2 m (row Out m) (long_row Out m) (row_all (λ w. two_driver w ≡ 2) Out m (λ j h. refl)))

  env_may : (M : List ℕ → Type 0) → ((t : List ℕ) → M t ↔ Rounds n m t) → (t : List ℕ) → M t ↔ webs.May (two_web n m) 0 (map (λ p. get_or (ports_at n m 0) p (In n)) t)
  env_may M traces t =
      let k = rounds_spec same_wire wires_decide (row In n) (row Out m) (In n) n m (long_row In n) (long_row Out m) (env_distinct n m) (AtRounds n m)
      (λ e r. let z = r.0 in omega arith) (env_on n m) t in
      ((λ h. k.0 ((traces t).0 h)), (λ h. (traces t).1 (k.1 h)))

  join_may : (M : List ℕ → Type 0) → ((t : List ℕ) → M t ↔ Rounds n 1 t) → (t : List ℕ) → M t ↔ webs.May (two_web n m) 1 (map (λ p. get_or (ports_at n m 1) p (In n)) t)
  join_may M traces t =
      let k = rounds_spec same_wire wires_decide (row In n) (Mid ∷ []) (In n) n 1 (long_row In n) refl (join_distinct n) (AtJoin n)
      (λ e r. let z = r.0 in omega arith) (join_on n) t in
      ((λ h. k.0 ((traces t).0 h)), (λ h. (traces t).1 (k.1 h)))

  spread_may : (M : List ℕ → Type 0) → ((t : List ℕ) → M t ↔ Rounds 1 m t) → (t : List ℕ) → M t ↔ webs.May (two_web n m) 2 (map (λ p. get_or (ports_at n m 2) p (In n)) t)
  spread_may M traces t =
      let k = rounds_spec same_wire wires_decide (Mid ∷ []) (row Out m) (In n) 1 m refl (long_row Out m) (spread_distinct m) (AtSpread m)
      (λ e r. r) (spread_on m) t in
      ((λ h. k.0 ((traces t).0 h)), (λ h. (traces t).1 (k.1 h)))

  real_out : (w : Wire) (t : List Wire) → (two_web n m).rule (two_driver w) t w → There n m w
  real_out (In i) t r = r.0
  real_out (Out j) t r = r.0
  real_out Mid t r = tt

  real_in : (w : Wire) (t : List Wire) → (two_web n m).rule (two_receiver w) t w → There n m w
  real_in (In i) t r = r.0
  real_in (Out j) t r = r.0
  real_in Mid t r = tt

  never : (k : ℕ) (t : List Wire) → (two_web n m).rule k t (In n) → ⊥
  never zero t r = let z = r.0 in omega arith
  never (suc zero) t r = let z = r.0 in omega arith
  never (suc (suc k)) t r = r

  env_numbers : (number : Wire → ℕ) → ((i : ℕ) → i < n → number (In i) ≡ i) → ((j : ℕ) → j < m → number (Out j) ≡ n + j)
      → map number (row In n ++ row Out m) ≡ range_with_len 0 (n + m)
  env_numbers number ins outs =
      map-append number (row In n) (row Out m)
      ∙ ap (λ l. l ++ map number (row Out m)) (number_row number In 0 n (λ i h. omega (arith, ins i h)))
      ∙ ap (λ l. range_with_len 0 n ++ l) (number_row number Out (0 + n) m (λ j h. omega (arith, outs j h)))
      ∙ range_both 0 n m

  join_numbers : (number : Wire → ℕ) → ((i : ℕ) → i < n → number (In i) ≡ i) → map number (row In n ++ Mid ∷ []) ≡ range_with_len 0 n ++ number Mid ∷ []
  join_numbers number ins =
      map-append number (row In n) (Mid ∷ []) ∙ ap (λ l. l ++ number Mid ∷ []) (number_row number In 0 n (λ i h. omega (arith, ins i h)))

  fork_numbers : (number : Wire → ℕ) → ((j : ℕ) → j < m → number (Out j) ≡ n + j) → map number (Mid ∷ row Out m) ≡ number Mid ∷ range_with_len n m
  fork_numbers number outs = ap (λ l. number Mid ∷ l) (number_row number Out n m (λ j h. omega (arith, outs j h)))

join_traces : (n : ℕ) → 0 < n → (t : List ℕ) → May (Basic (kind.C n)) t ↔ Rounds n 1 t
unfolding May
join_traces n h t = rounds_ports n 1 h (omega arith) t

fork_traces : (m : ℕ) → 0 < m → (t : List ℕ) → May (Basic (kind.Fork m)) t ↔ Rounds 1 m t
unfolding May
fork_traces m h t = rounds_ports 1 m (omega arith) h t

wire_traces : (t : List ℕ) → May (Basic kind.Wire) t ↔ Rounds 1 1 t
unfolding May
wire_traces t = rounds_ports 1 1 (omega arith) (omega arith) t

-- ---- a join and a fork, both kept

module _ (s : NodeSpec) (n m : ℕ) (some_in : 0 < n) (some_out : 0 < m) (outs : outs_of s ≡ sides n m) (formed : IsFormed s)
    (traces : (t : List ℕ) → May s t ↔ Rounds n m t) (join_formed : IsFormed (Basic (kind.C n))) (fork_formed : IsFormed (Basic (kind.Fork m))) where
  abbrev both_spec : ℕ → NodeSpec
  both_spec zero = s
  both_spec (suc zero) = Basic (kind.C n)
  both_spec (suc (suc k)) = Basic (kind.Fork m)

  abbrev both_number : Wire → ℕ
  both_number (In i) = i
  both_number (Out j) = n + j
  both_number Mid = n + m

  abbrev both_chart : Chart ℕ Wire
  both_chart = record { env = 0; parts = 1 ∷ 2 ∷ []; spec = both_spec; ports = ports_at n m; number = both_number; many = n + m + 1 }

  abbrev both_lines : List Wire
  both_lines = (row In n ++ row Out m) ++ Mid ∷ []

  abbrev Always : ℕ → Type 0
  Always k = Unit {0}

  both_all : (P : Wire → Type 0) → ((w : Wire) → There n m w → P w) → AllByRecursion P both_lines
  both_all P h =
      all_both P (row In n ++ row Out m) (Mid ∷ [])
      (all_both P (row In n) (row Out m) (row_all P In n (λ i low. h (In i) low)) (row_all P Out m (λ j low. h (Out j) low))) (h Mid tt, tt)

  both_among : (w : Wire) → There n m w → Among w both_lines
  both_among (In i) t = among_left (In i) (row In n ++ row Out m) (Mid ∷ []) (among_left (In i) (row In n) (row Out m) (row_among In n i t))
  both_among (Out j) t = among_left (Out j) (row In n ++ row Out m) (Mid ∷ []) (among_right (Out j) (row In n) (row Out m) (row_among Out m j t))
  both_among Mid t = among_right Mid (row In n ++ row Out m) (Mid ∷ []) (inl refl)

  both_nodes : Distinct {A = ℕ} (0 ∷ 1 ∷ 2 ∷ [])
  both_nodes = (zero_apart, (one_apart, ((λ h. h), tt)))
    where
      zero_apart : Among {A = ℕ} 0 (1 ∷ 2 ∷ []) → ⊥
      zero_apart (inl e) = omega arith
      zero_apart (inr (inl e)) = omega arith
      zero_apart (inr (inr h)) = h

      one_apart : Among {A = ℕ} 1 (2 ∷ []) → ⊥
      one_apart (inl e) = omega arith
      one_apart (inr h) = h

  both_routes : Routes ℕ Wire (two_web n m) Always (There n m) both_chart both_lines (λ w. w) (λ w. w) (λ w. w) (In n)
  both_routes = record {
    env = refl;
    nodes = both_nodes;
    formed = (formed, (join_formed, (fork_formed, tt)));
    outer = env_joined n m (outs_of s) outs;
    inner = (join_joined n m, (spread_joined n m (sides 1 m) refl, tt));
    distinct = (env_distinct n m, (join_distinct n, (spread_distinct m, tt)));
    kept = (tt, (tt, (tt, tt)));
    there = (there_env n m, (there_join n m, (there_spread n m, tt)));
    driven = driven;
    received = received;
    numbers = map-append both_number (row In n ++ row Out m) (Mid ∷ []) ∙ ap (λ l. l ++ (n + m) ∷ []) (env_numbers n m both_number (λ i h. refl) (λ j h. refl))
        ∙ ap (λ k. range_with_len 0 (n + m) ++ k ∷ []) (let z : n + m ≡ 0 + (n + m) = omega arith in z) ∙ range_both 0 (n + m) 1;
    number_root = λ w t. refl;
    begins = λ w t k. (both_among w t, refl);
    ends = λ w t k. (both_among w t, refl);
    firsts = both_all (λ v. There n m v × Unit {0} × (v ≡ v)) (λ w t. (t, tt, refl));
    lasts = both_all (λ v. There n m v × Unit {0} × (v ≡ v)) (λ w t. (t, tt, refl));
    path = both_all (λ v. Path ℕ Wire (two_web n m) Always v v) (λ w t. here w);
    apart = both_all (λ v. two_driver v ≡ two_receiver v → ⊥) (λ w t. (two_lawful n m some_in some_out).clean w);
    real_out = real_out n m;
    real_in = real_in n m;
    enters = λ w t. inl tt;
    leaves = λ w t. inl tt;
    never = never n m;
    may = (env_may n m (May s) traces, (join_may n m (May (Basic (kind.C n))) (join_traces n some_in), (spread_may n m (May (Basic (kind.Fork m))) (fork_traces m some_out), tt)));
  }
    where
      driven : (w : Wire) → There n m w → Unit {0} → Among (two_driver w) (0 ∷ 1 ∷ 2 ∷ []) × Among w (ports_at n m (two_driver w))
      driven (In i) t k = (inl refl, among_left (In i) (row In n) (row Out m) (row_among In n i t))
      driven (Out j) t k = (inr (inr (inl refl)), inr (row_among Out m j t))
      driven Mid t k = (inr (inl refl), among_right Mid (row In n) (Mid ∷ []) (inl refl))

      received : (w : Wire) → There n m w → Unit {0} → Among (two_receiver w) (0 ∷ 1 ∷ 2 ∷ []) × Among w (ports_at n m (two_receiver w))
      received (In i) t k = (inr (inl refl), among_left (In i) (row In n) (Mid ∷ []) (row_among In n i t))
      received (Out j) t k = (inl refl, among_right (Out j) (row In n) (row Out m) (row_among Out m j t))
      received Mid t k = (inr (inr (inl refl)), inl refl)

  both_is : charted both_chart ≡ join_fork_net s n m
  both_is =
      ap (λ l. record {
        nodes = record { spec = s; ends = l } ∷ record { spec = Basic (kind.C n); ends = map both_number (ports_at n m 1) }
            ∷ record { spec = Basic (kind.Fork m); ends = map both_number (ports_at n m 2) } ∷ [];
        wires = n + m + 1;
      }) (env_numbers n m both_number (λ i h. refl) (λ j h. refl))
      ∙ ap (λ l. record {
        nodes = record { spec = s; ends = range_with_len 0 (n + m) } ∷ record { spec = Basic (kind.C n); ends = l }
            ∷ record { spec = Basic (kind.Fork m); ends = map both_number (ports_at n m 2) } ∷ [];
        wires = n + m + 1;
      }) (join_numbers n m both_number (λ i h. refl))
      ∙ ap (λ l. record {
        nodes = record { spec = s; ends = range_with_len 0 (n + m) } ∷ record { spec = Basic (kind.C n); ends = range_with_len 0 n ++ (n + m) ∷ [] }
            ∷ record { spec = Basic (kind.Fork m); ends = l } ∷ [];
        wires = n + m + 1;
      }) (fork_numbers n m both_number (λ j h. refl))

  both_right : Implements (join_fork_net s n m) s
  both_right = subst (λ (c : Circuit). Implements c s) both_is (record {
    basic = routes_basic ℕ Wire (two_web n m) Always (There n m) both_chart both_lines (λ w. w) (λ w. w) (λ w. w) (In n) (two_lawful n m some_in some_out) both_routes (refl, (refl, tt));
    clean = routes_clean ℕ Wire (two_web n m) Always (There n m) both_chart both_lines (λ w. w) (λ w. w) (λ w. w) (In n) (two_lawful n m some_in some_out) both_routes;
    correct = routes_correct ℕ Wire (two_web n m) Always (There n m) both_chart both_lines (λ w. w) (λ w. w) (λ w. w) (In n) (two_lawful n m some_in some_out) both_routes
        (two_sound n m some_in some_out) (two_exact n m some_in some_out);
  })

-- ---- one component alone

two_nodes : (a : ℕ) → 0 < a → Distinct {A = ℕ} (0 ∷ a ∷ [])
two_nodes a some = (apart, ((λ h. h), tt))
  where
    apart : Among {A = ℕ} 0 (a ∷ []) → ⊥
    apart (inl e) = omega arith
    apart (inr h) = h

-- a fork behind a join of one input, which is left out
module _ (s : NodeSpec) (part : Kind) (m : ℕ) (some_out : 0 < m) (outs : outs_of s ≡ sides 1 m) (formed : IsFormed s)
    (traces : (t : List ℕ) → May s t ↔ Rounds 1 m t) (part_outs : outs_of (Basic part) ≡ sides 1 m) (part_formed : IsFormed (Basic part))
    (part_traces : (t : List ℕ) → May (Basic part) t ↔ Rounds 1 m t) where
  abbrev fork_spec : ℕ → NodeSpec
  fork_spec zero = s
  fork_spec (suc k) = Basic part

  abbrev fork_number : Wire → ℕ
  fork_number (In i) = i
  fork_number (Out j) = 1 + j
  fork_number Mid = 0

  abbrev fork_chart : Chart ℕ Wire
  fork_chart = record { env = 0; parts = 2 ∷ []; spec = fork_spec; ports = ports_at 1 m; number = fork_number; many = 1 + m }

  abbrev NoJoin : ℕ → Type 0
  NoJoin zero = Unit {0}
  NoJoin (suc zero) = ⊥
  NoJoin (suc (suc k)) = Unit {0}

  abbrev fork_lines : List Wire
  fork_lines = row In 1 ++ row Out m

  abbrev fork_root : Wire → Wire
  fork_root (In i) = In i
  fork_root (Out j) = Out j
  fork_root Mid = In 0

  abbrev fork_last : Wire → Wire
  fork_last (In i) = Mid
  fork_last (Out j) = Out j
  fork_last Mid = Mid

  fork_all : (P : Wire → Type 0) → ((i : ℕ) → i < 1 → P (In i)) → ((j : ℕ) → j < m → P (Out j)) → AllByRecursion P fork_lines
  fork_all P a b = all_both P (row In 1) (row Out m) (row_all P In 1 a) (row_all P Out m b)

  fork_hop : (i : ℕ) → i < 1 → Hop ℕ Wire (two_web 1 m) NoJoin (In i) Mid
  fork_hop i low = record {
    joins = refl;
    inner = λ k. k;
    takes = λ t r. r.1;
    gives = λ t h k y. let e : i ≡ k = omega arith in subst (λ z. tally same_wire naught t Mid < tally same_wire naught t (In z)) e h;
    passed = λ t r. r i low;
  }

  fork_routes : Routes ℕ Wire (two_web 1 m) NoJoin (There 1 m) fork_chart fork_lines fork_root (λ w. w) fork_last (In 1)
  fork_routes = record {
    env = refl;
    nodes = two_nodes 2 (omega arith);
    formed = (formed, (part_formed, tt));
    outer = env_joined 1 m (outs_of s) outs;
    inner = (spread_joined 1 m (outs_of (Basic part)) part_outs, tt);
    distinct = (env_distinct 1 m, (spread_distinct m, tt));
    kept = (tt, (tt, tt));
    there = (there_env 1 m, (there_spread 1 m, tt));
    driven = driven;
    received = received;
    numbers = env_numbers 1 m fork_number (λ i h. refl) (λ j h. refl);
    number_root = number_root;
    begins = begins;
    ends = ends;
    firsts = fork_all (λ v. There 1 m v × NoJoin (two_driver v) × (fork_root v ≡ v)) (λ i h. (h, tt, refl)) (λ j h. (h, tt, refl));
    lasts = fork_all (λ v. There 1 m (fork_last v) × NoJoin (two_receiver (fork_last v)) × (fork_root (fork_last v) ≡ v))
        (λ i h. (tt, tt, ap In (let e : 0 ≡ i = omega arith in e))) (λ j h. (h, tt, refl));
    path = fork_all (λ v. Path ℕ Wire (two_web 1 m) NoJoin v (fork_last v))
        (λ i h. hop (In i) Mid Mid (fork_hop i h) (λ e. cc) (here Mid)) (λ j h. here (Out j));
    apart = fork_all (λ v. two_driver v ≡ two_receiver (fork_last v) → ⊥) (λ i h e. omega arith) (λ j h e. omega arith);
    real_out = real_out 1 m;
    real_in = real_in 1 m;
    enters = enters;
    leaves = leaves;
    never = never 1 m;
    may = (env_may 1 m (May s) traces, (spread_may 1 m (May (Basic part)) part_traces, tt));
  }
    where
      among : (w : Wire) → There 1 m w → (w ≡ Mid → ⊥) → Among w fork_lines
      among (In i) t ne = among_left (In i) (row In 1) (row Out m) (row_among In 1 i t)
      among (Out j) t ne = among_right (Out j) (row In 1) (row Out m) (row_among Out m j t)
      among Mid t ne = absurd (ne refl)

      driven : (w : Wire) → There 1 m w → NoJoin (two_driver w) → Among {A = ℕ} (two_driver w) (0 ∷ 2 ∷ []) × Among w (ports_at 1 m (two_driver w))
      driven (In i) t k = (inl refl, among_left (In i) (row In 1) (row Out m) (row_among In 1 i t))
      driven (Out j) t k = (inr (inl refl), inr (row_among Out m j t))
      driven Mid t k = absurd k

      received : (w : Wire) → There 1 m w → NoJoin (two_receiver w) → Among {A = ℕ} (two_receiver w) (0 ∷ 2 ∷ []) × Among w (ports_at 1 m (two_receiver w))
      received (In i) t k = absurd k
      received (Out j) t k = (inl refl, among_right (Out j) (row In 1) (row Out m) (row_among Out m j t))
      received Mid t k = (inr (inl refl), inl refl)

      number_root : (w : Wire) → There 1 m w → fork_number w ≡ fork_number (fork_root w)
      number_root (In i) t = refl
      number_root (Out j) t = refl
      number_root Mid t = refl

      begins : (w : Wire) → There 1 m w → NoJoin (two_driver w) → Among (fork_root w) fork_lines × (fork_root w ≡ w)
      begins (In i) t k = (among (In i) t (λ e. cc), refl)
      begins (Out j) t k = (among (Out j) t (λ e. cc), refl)
      begins Mid t k = absurd k

      ends : (w : Wire) → There 1 m w → NoJoin (two_receiver w) → Among (fork_root w) fork_lines × (fork_last (fork_root w) ≡ w)
      ends (In i) t k = absurd k
      ends (Out j) t k = (among (Out j) t (λ e. cc), refl)
      ends Mid t k = (among_left (In 0) (row In 1) (row Out m) (row_among In 1 0 (omega arith)), refl)

      enters : (w : Wire) → There 1 m w → NoJoin (two_driver w) ⊎ (NoJoin (two_driver w) → ⊥)
      enters (In i) t = inl tt
      enters (Out j) t = inl tt
      enters Mid t = inr (λ k. k)

      leaves : (w : Wire) → There 1 m w → NoJoin (two_receiver w) ⊎ (NoJoin (two_receiver w) → ⊥)
      leaves (In i) t = inr (λ k. k)
      leaves (Out j) t = inl tt
      leaves Mid t = inl tt

  fork_is : charted fork_chart ≡ one_net s part (suc m)
  fork_is =
      let many : 1 + m ≡ suc m = omega arith in
      let ports : map fork_number (Mid ∷ row Out m) ≡ range_with_len 0 (suc m) = fork_numbers 1 m fork_number (λ j h. refl) in
      ap (λ l. record {
        nodes = record { spec = s; ends = l } ∷ record { spec = Basic part; ends = map fork_number (Mid ∷ row Out m) } ∷ [];
        wires = 1 + m;
      }) (env_numbers 1 m fork_number (λ i h. refl) (λ j h. refl) ∙ ap (range_with_len 0) many)
      ∙ ap (λ l. record {
        nodes = record { spec = s; ends = range_with_len 0 (suc m) } ∷ record { spec = Basic part; ends = l } ∷ [];
        wires = 1 + m;
      }) ports
      ∙ ap (λ k. record {
        nodes = record { spec = s; ends = range_with_len 0 (suc m) } ∷ record { spec = Basic part; ends = range_with_len 0 (suc m) } ∷ [];
        wires = k;
      }) many

  fork_right : Implements (one_net s part (suc m)) s
  fork_right = subst (λ (c : Circuit). Implements c s) fork_is (record {
    basic = routes_basic ℕ Wire (two_web 1 m) NoJoin (There 1 m) fork_chart fork_lines fork_root (λ w. w) fork_last (In 1) (two_lawful 1 m (omega arith) some_out) fork_routes (refl, tt);
    clean = routes_clean ℕ Wire (two_web 1 m) NoJoin (There 1 m) fork_chart fork_lines fork_root (λ w. w) fork_last (In 1) (two_lawful 1 m (omega arith) some_out) fork_routes;
    correct = routes_correct ℕ Wire (two_web 1 m) NoJoin (There 1 m) fork_chart fork_lines fork_root (λ w. w) fork_last (In 1) (two_lawful 1 m (omega arith) some_out) fork_routes
        (two_sound 1 m (omega arith) some_out) (two_exact 1 m (omega arith) some_out);
  })

-- a join before a fork of one output, which is left out
module _ (s : NodeSpec) (n : ℕ) (some_in : 0 < n) (outs : outs_of s ≡ sides n 1) (formed : IsFormed s)
    (traces : (t : List ℕ) → May s t ↔ Rounds n 1 t) (join_formed : IsFormed (Basic (kind.C n))) where
  abbrev join_spec : ℕ → NodeSpec
  join_spec zero = s
  join_spec (suc k) = Basic (kind.C n)

  abbrev join_number : Wire → ℕ
  join_number (In i) = i
  join_number (Out j) = n + j
  join_number Mid = n + 0

  abbrev join_chart : Chart ℕ Wire
  join_chart = record { env = 0; parts = 1 ∷ []; spec = join_spec; ports = ports_at n 1; number = join_number; many = n + 1 }

  abbrev NoFork : ℕ → Type 0
  NoFork zero = Unit {0}
  NoFork (suc zero) = Unit {0}
  NoFork (suc (suc k)) = ⊥

  abbrev join_lines : List Wire
  join_lines = row In n ++ row Out 1

  abbrev join_root : Wire → Wire
  join_root (In i) = In i
  join_root (Out j) = Out j
  join_root Mid = Out 0

  abbrev join_first : Wire → Wire
  join_first (In i) = In i
  join_first (Out j) = Mid
  join_first Mid = Mid

  join_all : (P : Wire → Type 0) → ((i : ℕ) → i < n → P (In i)) → ((j : ℕ) → j < 1 → P (Out j)) → AllByRecursion P join_lines
  join_all P a b = all_both P (row In n) (row Out 1) (row_all P In n a) (row_all P Out 1 b)

  join_hop : (j : ℕ) → j < 1 → Hop ℕ Wire (two_web n 1) NoFork Mid (Out j)
  join_hop j low = record {
    joins = refl;
    inner = λ k. k;
    takes = λ t r. r j low;
    gives = λ t h. (low, h);
    passed = λ t r. r.1;
  }

  join_routes : Routes ℕ Wire (two_web n 1) NoFork (There n 1) join_chart join_lines join_root join_first (λ w. w) (In n)
  join_routes = record {
    env = refl;
    nodes = two_nodes 1 (omega arith);
    formed = (formed, (join_formed, tt));
    outer = env_joined n 1 (outs_of s) outs;
    inner = (join_joined n 1, tt);
    distinct = (env_distinct n 1, (join_distinct n, tt));
    kept = (tt, (tt, tt));
    there = (there_env n 1, (there_join n 1, tt));
    driven = driven;
    received = received;
    numbers = env_numbers n 1 join_number (λ i h. refl) (λ j h. refl);
    number_root = number_root;
    begins = begins;
    ends = ends;
    firsts = join_all (λ v. There n 1 (join_first v) × NoFork (two_driver (join_first v)) × (join_root (join_first v) ≡ v))
        (λ i h. (h, tt, refl)) (λ j h. (tt, tt, ap Out (let e : 0 ≡ j = omega arith in e)));
    lasts = join_all (λ v. There n 1 v × NoFork (two_receiver v) × (join_root v ≡ v)) (λ i h. (h, tt, refl)) (λ j h. (h, tt, refl));
    path = join_all (λ v. Path ℕ Wire (two_web n 1) NoFork (join_first v) v)
        (λ i h. here (In i)) (λ j h. hop Mid (Out j) (Out j) (join_hop j h) (λ e. cc) (here (Out j)));
    apart = join_all (λ v. two_driver (join_first v) ≡ two_receiver v → ⊥) (λ i h e. omega arith) (λ j h e. omega arith);
    real_out = real_out n 1;
    real_in = real_in n 1;
    enters = enters;
    leaves = leaves;
    never = never n 1;
    may = (env_may n 1 (May s) traces, (join_may n 1 (May (Basic (kind.C n))) (join_traces n some_in), tt));
  }
    where
      in_among : (i : ℕ) → i < n → Among (In i) join_lines
      in_among i t = among_left (In i) (row In n) (row Out 1) (row_among In n i t)

      out_among : (j : ℕ) → j < 1 → Among (Out j) join_lines
      out_among j t = among_right (Out j) (row In n) (row Out 1) (row_among Out 1 j t)

      driven : (w : Wire) → There n 1 w → NoFork (two_driver w) → Among {A = ℕ} (two_driver w) (0 ∷ 1 ∷ []) × Among w (ports_at n 1 (two_driver w))
      driven (In i) t k = (inl refl, among_left (In i) (row In n) (row Out 1) (row_among In n i t))
      driven (Out j) t k = absurd k
      driven Mid t k = (inr (inl refl), among_right Mid (row In n) (Mid ∷ []) (inl refl))

      received : (w : Wire) → There n 1 w → NoFork (two_receiver w) → Among {A = ℕ} (two_receiver w) (0 ∷ 1 ∷ []) × Among w (ports_at n 1 (two_receiver w))
      received (In i) t k = (inr (inl refl), among_left (In i) (row In n) (Mid ∷ []) (row_among In n i t))
      received (Out j) t k = (inl refl, among_right (Out j) (row In n) (row Out 1) (row_among Out 1 j t))
      received Mid t k = absurd k

      number_root : (w : Wire) → There n 1 w → join_number w ≡ join_number (join_root w)
      number_root (In i) t = refl
      number_root (Out j) t = refl
      number_root Mid t = refl

      begins : (w : Wire) → There n 1 w → NoFork (two_driver w) → Among (join_root w) join_lines × (join_first (join_root w) ≡ w)
      begins (In i) t k = (in_among i t, refl)
      begins (Out j) t k = absurd k
      begins Mid t k = (out_among 0 (omega arith), refl)

      ends : (w : Wire) → There n 1 w → NoFork (two_receiver w) → Among (join_root w) join_lines × (join_root w ≡ w)
      ends (In i) t k = (in_among i t, refl)
      ends (Out j) t k = (out_among j t, refl)
      ends Mid t k = absurd k

      enters : (w : Wire) → There n 1 w → NoFork (two_driver w) ⊎ (NoFork (two_driver w) → ⊥)
      enters (In i) t = inl tt
      enters (Out j) t = inr (λ k. k)
      enters Mid t = inl tt

      leaves : (w : Wire) → There n 1 w → NoFork (two_receiver w) ⊎ (NoFork (two_receiver w) → ⊥)
      leaves (In i) t = inl tt
      leaves (Out j) t = inl tt
      leaves Mid t = inr (λ k. k)

  join_is : charted join_chart ≡ one_net s (kind.C n) (suc n)
  join_is =
      let many : n + 1 ≡ suc n = omega arith in
      let last : n + 0 ≡ 0 + n = omega arith in
      let ports : map join_number (row In n ++ Mid ∷ []) ≡ range_with_len 0 (suc n) =
      join_numbers n 1 join_number (λ i h. refl) ∙ ap (λ k. range_with_len 0 n ++ k ∷ []) last ∙ range_both 0 n 1 ∙ ap (range_with_len 0) many in
      ap (λ l. record {
        nodes = record { spec = s; ends = l } ∷ record { spec = Basic (kind.C n); ends = map join_number (row In n ++ Mid ∷ []) } ∷ [];
        wires = n + 1;
      }) (env_numbers n 1 join_number (λ i h. refl) (λ j h. refl) ∙ ap (range_with_len 0) many)
      ∙ ap (λ l. record {
        nodes = record { spec = s; ends = range_with_len 0 (suc n) } ∷ record { spec = Basic (kind.C n); ends = l } ∷ [];
        wires = n + 1;
      }) ports
      ∙ ap (λ k. record {
        nodes = record { spec = s; ends = range_with_len 0 (suc n) } ∷ record { spec = Basic (kind.C n); ends = range_with_len 0 (suc n) } ∷ [];
        wires = k;
      }) many

  join_right : Implements (one_net s (kind.C n) (suc n)) s
  join_right = subst (λ (c : Circuit). Implements c s) join_is (record {
    basic = routes_basic ℕ Wire (two_web n 1) NoFork (There n 1) join_chart join_lines join_root join_first (λ w. w) (In n) (two_lawful n 1 some_in (omega arith)) join_routes (refl, tt);
    clean = routes_clean ℕ Wire (two_web n 1) NoFork (There n 1) join_chart join_lines join_root join_first (λ w. w) (In n) (two_lawful n 1 some_in (omega arith)) join_routes;
    correct = routes_correct ℕ Wire (two_web n 1) NoFork (There n 1) join_chart join_lines join_root join_first (λ w. w) (In n) (two_lawful n 1 some_in (omega arith)) join_routes
        (two_sound n 1 some_in (omega arith)) (two_exact n 1 some_in (omega arith));
  })

fork_formed : (m : ℕ) → 2 ≤ m → m < 2 ^ 27 → IsFormed (Basic (kind.Fork m))
fork_formed m wide few = record { wide = wide; few = omega arith }

join_formed : (n : ℕ) → 2 ≤ n → n < 2 ^ 27 → IsFormed (Basic (kind.C n))
join_formed n wide few = record { wide = wide; few = omega arith }

-- any numbers of inputs and outputs
pub rounds_right : (s : NodeSpec) (n m : ℕ) → 0 < n → 0 < m → n < 2 ^ 27 → m < 2 ^ 27 → IsFormed s → outs_of s ≡ sides n m
    → ((t : List ℕ) → May s t ↔ Rounds n m t) → Implements (rounds_net s n m) s
rounds_right s zero m some_in some_out few less formed outs traces = absurd (omega arith)
rounds_right s (suc n) zero some_in some_out few less formed outs traces = absurd (omega arith)
rounds_right s (suc zero) (suc zero) some_in some_out few less formed outs traces =
    fork_right s kind.Wire 1 some_out outs formed traces refl (record { wide = tt; few = omega arith }) wire_traces
rounds_right s (suc zero) (suc (suc m)) some_in some_out few less formed outs traces =
    fork_right s (kind.Fork (suc (suc m))) (suc (suc m)) some_out outs formed traces refl (fork_formed (suc (suc m)) (omega arith) less)
    (fork_traces (suc (suc m)) some_out)
rounds_right s (suc (suc n)) (suc zero) some_in some_out few less formed outs traces =
    join_right s (suc (suc n)) some_in outs formed traces (join_formed (suc (suc n)) (omega arith) few)
rounds_right s (suc (suc n)) (suc (suc m)) some_in some_out few less formed outs traces =
    both_right s (suc (suc n)) (suc (suc m)) some_in some_out outs formed traces (join_formed (suc (suc n)) (omega arith) few) (fork_formed (suc (suc m)) (omega arith) less)
