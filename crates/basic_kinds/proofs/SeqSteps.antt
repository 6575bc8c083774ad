-- A SEQ's machine at its start and after a grant.
use Rattle.std.proofs.Common.{◌≡◌, inl, inr, ⊎_elim, ℕ, ◌+◌, ◌-◌, ◌<◌, ◌≤◌, Bool, false, List, length, get_or, set, replicate, refl, sym, ap, subst, arith, length-set, get_or-set_same, get_or-set_other}
use Rattle.std.proofs.lemmas.Bool.{cases_eq}
use Rattle.std.proofs.lemmas.List.{get_or-replicate, length-replicate}
use Rattle.cmd_tree.proofs.Phases.{Grew}
use Rattle.basic_kinds.specs.declared.kind.Kind.TheVariants.{Seq}
use Rattle.basic_kinds.specs.KindCounts.{KindAt, GrantMay, grants_in}
use Rattle.basic_kinds.specs.Mirror.Machines.{Leads, SeqOf}
use Rattle.basic_kinds.proofs.Totals.{total_none}
use Rattle.basic_kinds.proofs.SmallKinds.{row_grows}
use Rattle.basic_kinds.proofs.RoundSteps.{leads_by}

made : (k : ℕ) (asked : List Bool) (token : Bool) (d : ℕ → ℕ) → length asked ≡ k
    → ((i : ℕ) → i < k → Leads (get_or asked i false) (d i) (d (k + 1 + i)))
    → Leads token (d k) (grants_in k d) → SeqOf asked token d
made k asked token d e h t = record {
  each = subst (λ n. (i : ℕ) → i < n → Leads (get_or asked i false) (d i) (d (n + 1 + i))) (sym e) h;
  tokens = subst (λ n. Leads token (d n) (grants_in n d)) (sym e) t;
}

pub seq_none : (asked : List Bool) (w : ℕ) → asked ≡ replicate w false → SeqOf asked false (λ p. 0)
seq_none asked w e = subst (λ xs. SeqOf xs false (λ p. 0)) (sym e) (made w (replicate w false) false (λ p. 0)
    (length-replicate w false)
    (λ i l. subst (λ b. Leads b 0 0) (sym (get_or-replicate w i false false l)) refl)
    (sym (total_none w (λ i. 0) (λ i l. refl))))

module _ (asked : List Bool) (token : Bool) (c d : ℕ → ℕ) (p : ℕ) (h : SeqOf asked token c) where
  abbrev k : ℕ
  k = length asked

  after_grant : (m : GrantMay k c p) → Grew c p d → SeqOf (set asked m.request false) false d
  after_grant m g0 = made k (set asked r false) false d (length-set asked r false)
      (λ i l. ⊎_elim (here i) (other i l) (cases_eq i r))
      (omega (
        arith,
        g.elsewhere k (λ e. omega arith),
        row_grows k (k + 1) c d r m.within g,
        leads_by token (c k) (grants_in k c) h.tokens,
        m.token,
      ))
    where
      r : ℕ
      r = m.request

      g : Grew c (k + 1 + r) d
      g = subst (λ x. Grew c x d) m.port g0

      here : (i : ℕ) → i ≡ r → Leads (get_or (set asked r false) i false) (d i) (d (k + 1 + i))
      here i e = subst (λ x. Leads (get_or (set asked r false) x false) (d x) (d (k + 1 + x))) (sym e)
          (subst (λ b. Leads b (d r) (d (k + 1 + r))) (sym (get_or-set_same asked r false false m.within))
          (omega (
            arith,
            leads_by (get_or asked r false) (c r) (c (k + 1 + r)) (h.each r m.within),
            m.waits,
            ap c m.port,
            g.here,
            g.elsewhere r (λ z. omega arith),
          )))

      other : (i : ℕ) → i < k → (i ≡ r → ⊥) → Leads (get_or (set asked r false) i false) (d i) (d (k + 1 + i))
      other i l n = subst (λ b. Leads b (d i) (d (k + 1 + i))) (sym (get_or-set_other asked r i false false n))
          (subst (λ x. Leads (get_or asked i false) x (d (k + 1 + i)))
          (sym (g.elsewhere i (λ z. omega (arith, l))))
          (subst (λ x. Leads (get_or asked i false) (c i) x)
          (sym (g.elsewhere (k + 1 + i) (λ z. n (omega (arith, z))))) (h.each i l)))

  pub seq_grants : KindAt (Seq k) c p → k ≤ p → (p ≡ k → ⊥) → Grew c p d
      → SeqOf (set asked (p - k - 1) false) false d
  seq_grants (inl m) l n g = absurd (omega (arith, l, m.0))
  seq_grants (inr (inl m)) l n g = absurd (n m.0)
  seq_grants (inr (inr m)) l n g = subst (λ x. SeqOf (set asked x false) false d)
      (omega (arith, m.port)) (after_grant m g)
