-- What the tables of the numbers of wires say, row by row.
use Rattle.std.proofs.Common.{Vec, Global, ◌≡◌, ℕ, suc, ◌<◌, ◌≤◌, List, [], map, length, get_or, sym, ap, subst, ◌∙◌, arith}
use Rattle.std.specs.List.{AllByRecursion}
use Rattle.std.proofs.lemmas.List.{length-map}
use Rattle.net_core.specs.Specs.{outs_of}
use Rattle.plain_split.specs.declared.gives.Give.{Give}
use Rattle.plain_split.specs.declared.round_parts.RoundParts.{RoundParts}
use Rattle.plain_split.specs.declared.round_numbers.RoundNumbers.{RoundNumbers}
use Rattle.plain_split.specs.RoundsNet.{pow, Put}
use Rattle.plain_split.specs.RoundsChart.{givers}
use Rattle.plain_split.specs.Mirror.RoundsGives.{gives_of}
use Rattle.plain_split.specs.Mirror.RoundsTables.{parts_by, number_of, level_numbers, put_numbers, IsTabled, IsNumbered}
use Rattle.plain_split.proofs.RoundsSteps.{table_long, table_row}
use Rattle.plain_split.proofs.RoundsRead.{row_is}
use Rattle.plain_split.proofs.RoundsBuilt.{gives_acts, gives_ports, gives_numbers}

module _ (t : RoundParts) (h : IsTabled t) (n : RoundNumbers) (k : IsNumbered (parts_by t) n) where
  pub tree_long : length n.tree.items ≡ suc t.levels
  tree_long = table_long (λ v. v.items) (level_numbers (parts_by t)) n.tree.items (suc t.levels) k.tree

  pub tree_row : (d : ℕ) (v : Vec ℕ Global) (row : List ℕ) → d ≤ t.levels → v ≡ get_or n.tree.items d v → row ≡ v.items → row ≡ level_numbers (parts_by t) d
  tree_row d v row low is e = e ∙ table_row (λ v. v.items) (level_numbers (parts_by t)) n.tree.items (suc t.levels) d v k.tree (omega arith) is

  pub puts_many : length n.puts.items ≡ pow t.levels
  puts_many = table_long (λ v. v.items) (put_numbers (parts_by t)) n.puts.items (pow t.levels) k.puts

  pub puts_row : (y : ℕ) (v : Vec ℕ Global) (row : List ℕ) → y < pow t.levels → v ≡ get_or n.puts.items y v → row ≡ v.items → row ≡ put_numbers (parts_by t) y
  puts_row y v row low is e = e ∙ table_row (λ v. v.items) (put_numbers (parts_by t)) n.puts.items (pow t.levels) y v k.puts low is

  abbrev rows : List (List ℕ)
  rows = map (λ v. v.items) n.puts.items

  pub gives_row : (a : ℕ) (v : Vec Give Global) (row : List Give) → a < length (outs_of t.spec) → v ≡ get_or t.gives.items a v → row ≡ v.items → row ≡ gives_of (parts_by t).outs (pow t.levels) a
  gives_row a v row low is e = e ∙ row_is (λ v. v.items) t.gives.items v a (omega (arith, h.names)) is ∙ h.gives a low

  module _ (a : ℕ) (row : List Give) (are : row ≡ gives_of (parts_by t).outs (pow t.levels) a) (ps : List (Vec ℕ Global)) (same : ps ≡ n.puts.items) where
    pub acts_known : AllByRecursion (λ (g : Give). g.act < length ps) row
    acts_known = subst (AllByRecursion (λ (g : Give). g.act < length ps)) (sym are)
        (subst (λ (m : ℕ). AllByRecursion (λ (g : Give). g.act < m) (gives_of (parts_by t).outs (pow t.levels) a)) long (gives_acts (parts_by t) h.ready rows k.puts a))
      where
        long : length rows ≡ length ps
        long = length-map n.puts.items (λ v. v.items) ∙ ap length (sym same)

    pub ports_known : AllByRecursion (λ (g : Give). g.port < length (get_or (map (λ v. v.items) ps) g.act [])) row
    ports_known = subst (AllByRecursion (λ (g : Give). g.port < length (get_or (map (λ v. v.items) ps) g.act []))) (sym are)
        (subst (λ qs. AllByRecursion (λ (g : Give). g.port < length (get_or (map (λ v. v.items) qs) g.act [])) (gives_of (parts_by t).outs (pow t.levels) a)) (sym same)
        (gives_ports (parts_by t) h.ready rows k.puts a))

    pub numbers_read : map (λ (g : Give). get_or (get_or (map (λ v. v.items) ps) g.act []) g.port 0) row ≡ map (λ y. number_of (parts_by t) (Put y a)) (givers (parts_by t) a)
    numbers_read =
        ap (map (λ (g : Give). get_or (get_or (map (λ v. v.items) ps) g.act []) g.port 0)) are
        ∙ ap (λ qs. map (λ (g : Give). get_or (get_or (map (λ v. v.items) qs) g.act []) g.port 0) (gives_of (parts_by t).outs (pow t.levels) a)) same
        ∙ gives_numbers (parts_by t) h.ready rows k.puts a
