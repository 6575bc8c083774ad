-- The traces of a process in rounds whose symbols are ports by number: the inputs first, and then the outputs.
use Rattle.std.proofs.Common.{◌≡◌, inl, inr, ⊎_elim, ◌↔◌, ℕ, zero, suc, ◌+◌, ◌-◌, ◌<◌, ◌≤◌, List, [], ◌∷◌, IsTrue, refl, ap, ◌∙◌, subst, arith}
use Rattle.std.specs.List.{range_with_len}
use Rattle.std.proofs.lemmas.Bool.{cases_eq, cases_lt}
use Rattle.std.proofs.lemmas.List.FromFn.{length-range_with_len}
use Rattle.cmd_tree.specs.Meaning.{Trace}
use Rattle.cmd_tree.specs.Lists.{is_in}
use Rattle.cmd_tree.specs.Rounds.{counts, RoundsAt, Rounds}
use Rattle.cmd_tree.specs.RoundsProc.{rounds, MayCome}
use Rattle.cmd_tree.proofs.Bursts.{count, count_same, is_in_from_count, count_from_is_in}
use Rattle.cmd_tree.proofs.Phases.{count_other, Once}
use Rattle.cmd_tree.proofs.RoundsRule.{follows_by}
use Rattle.cmd_tree.proofs.RoundsTraces.{rounds_traces}

-- ---- numbers in a row

count_before : (a s k : ℕ) → a < s → count a (range_with_len s k) ≡ 0
count_before a s zero h = refl
count_before a s (suc k) h = count_other a s (range_with_len (s + 1) k) (λ e. omega arith) ∙ count_before a (s + 1) k (omega arith)

count_after : (a s k : ℕ) → s + k ≤ a → count a (range_with_len s k) ≡ 0
count_after a s zero h = refl
count_after a s (suc k) h = count_other a s (range_with_len (s + 1) k) (λ e. omega arith) ∙ count_after a (s + 1) k (omega arith)

count_inside : (a s k : ℕ) → s ≤ a → a < s + k → count a (range_with_len s k) ≡ 1
count_inside a s zero h l = absurd (omega arith)
count_inside a s (suc k) h l = ⊎_elim
    (λ e. subst (λ x. count a (x ∷ range_with_len (s + 1) k) ≡ 1) e (omega (arith, count_same a (range_with_len (s + 1) k), count_before a (s + 1) k (omega arith))))
    (λ n. count_other a s (range_with_len (s + 1) k) n ∙ count_inside a (s + 1) k (omega arith) (omega arith))
    (cases_eq a s)

is_in_row : (a s k : ℕ) → s ≤ a → a < s + k → IsTrue (is_in a (range_with_len s k))
is_in_row a s k h l = is_in_from_count a (range_with_len s k) (omega (arith, count_inside a s k h l))

row_is_in : (a s k : ℕ) → IsTrue (is_in a (range_with_len s k)) → (s ≤ a) × (a < s + k)
row_is_in a s k h = (
  ⊎_elim (λ l. absurd (omega (arith, count_from_is_in a (range_with_len s k) h, count_before a s k l))) (λ l. l) (cases_lt a s),
  ⊎_elim (λ l. l) (λ l. absurd (omega (arith, count_from_is_in a (range_with_len s k) h, count_after a s k l))) (cases_lt a (s + k)),
)

rows_once : (n m : ℕ) → Once (range_with_len 0 n) (range_with_len n m)
rows_once n m a = ⊎_elim
    (λ l. omega (arith, count_inside a 0 n (omega arith) (omega arith), count_before a n m l))
    (λ g. ⊎_elim (λ l. omega (arith, count_after a 0 n (omega arith), count_inside a n m g l)) (λ l. omega (arith, count_after a 0 n (omega arith), count_after a n m l)) (cases_lt a (n + m)))
    (cases_lt a n)

-- ---- the rule by ports

ports_from_symbols : (n m : ℕ) (c : ℕ → ℕ) (a : ℕ) → MayCome (range_with_len 0 n) (range_with_len n m) c a → RoundsAt n m c a
ports_from_symbols n m c a (inl h) = inl (omega (arith, (row_is_in a 0 n h.0).1), λ j l. h.1 (n + j) (is_in_row (n + j) n m (omega arith) (omega arith)))
ports_from_symbols n m c a (inr h) = inr ((row_is_in a n m h.0).0, (row_is_in a n m h.0).1, λ i l. h.1 i (is_in_row i 0 n (omega arith) (omega arith)))

symbols_from_ports : (n m : ℕ) (c : ℕ → ℕ) (a : ℕ) → RoundsAt n m c a → MayCome (range_with_len 0 n) (range_with_len n m) c a
symbols_from_ports n m c a (inl h) = inl (is_in_row a 0 n (omega arith) (omega (arith, h.0)), λ o ho. at o (row_is_in o n m ho))
  where
    at : (o : ℕ) → (n ≤ o) × (o < n + m) → c a ≡ c o
    at o l =
        let same : n + (o - n) ≡ o = omega (arith, l.0) in
        h.1 (o - n) (omega (arith, l.0, l.1)) ∙ ap c same
symbols_from_ports n m c a (inr h) = inr (is_in_row a n m h.0 h.1, λ i hi. h.2 i (omega (arith, (row_is_in i 0 n hi).1)))

pub rounds_ports : (n m : ℕ) → 0 < n → 0 < m → (t : List ℕ) → Trace (rounds n m ∷ []) t ↔ Rounds n m t
rounds_ports n m hn hm t =
    let k = rounds_traces (range_with_len 0 n) (range_with_len n m) (rows_once n m) (omega (arith, length-range_with_len 0 n)) (omega (arith, length-range_with_len n m)) t in (
      λ h. follows_by (λ u a. MayCome (range_with_len 0 n) (range_with_len n m) (counts u) a) (λ u p. RoundsAt n m (counts u) p) (λ u a r. ports_from_symbols n m (counts u) a r) [] t (k.0 h),
      λ h. k.1 (follows_by (λ u p. RoundsAt n m (counts u) p) (λ u a. MayCome (range_with_len 0 n) (range_with_len n m) (counts u) a) (λ u a r. symbols_from_ports n m (counts u) a r) [] t h),
    )
