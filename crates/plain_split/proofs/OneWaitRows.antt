-- The rows that are filled of a graph say its links.
use Rattle.std.proofs.Common.{◌≡◌, ℕ, zero, suc, ◌+◌, cond, List, [], ◌∷◌, map, length, get_or, refl, sym, ap, ◌∙◌, arith}
use Rattle.std.specs.Prelude.{filter, not}
use Rattle.std.specs.List.{AllByRecursion, range_with_len, position_or_len}
use Rattle.std.proofs.Math.Path.{fun_ext}
use Rattle.std.proofs.lemmas.List.{length-map}
use Rattle.cmd_tree.specs.declared.tree.Sym.{Sym}
use Rattle.cmd_tree.specs.Lists.{is_in}
use Rattle.place_graph.specs.declared.wait_graph.Act.{Act}
use Rattle.place_graph.specs.declared.wait_graph.Cross.{Cross}
use Rattle.place_graph.specs.declared.wait_graph.WaitGraph.{WaitGraph}
use Rattle.place_graph.specs.Graph.{has_sym}
use Rattle.place_graph.specs.GraphTraces.{numbers_of}
use Rattle.net_laws.proofs.Among.{Distinct}
use Rattle.plain_split.specs.declared.rows.Link.{Link}
use Rattle.plain_split.specs.OneWait.{links, outs_at}
use Rattle.plain_split.specs.Mirror.Rows.{tos, back, first_or}
use Rattle.plain_split.proofs.OneWaitWritten.{same_member}
use Rattle.plain_split.proofs.RoundsBlocks.{map_map}
use Rattle.plain_split.proofs.RowsFilled.{tos_of, back_rows, back_first}

module _ (g : WaitGraph) (names : ℕ) where
  pub entries_filled : (rows : List (List ℕ)) (ls : List Link) (crosses : List Cross) (many : ℕ) → rows ≡ map (tos ls) (range_with_len 0 many) → many ≡ length g.acts
      → ls ≡ map (λ (c : Cross). record { from = c.act; to = c.burst }) crosses → crosses ≡ g.crosses → rows ≡ map (links g names).entries (range_with_len 0 (length g.acts))
  entries_filled rows ls crosses many e n l x =
      e ∙ ap (λ k. map (tos ls) (range_with_len 0 k)) n
      ∙ ap (λ ms. map (tos ms) (range_with_len 0 (length g.acts))) (l ∙ ap (map (λ (c : Cross). record { from = c.act; to = c.burst })) x)
      ∙ ap (λ F. map F (range_with_len 0 (length g.acts))) (fun_ext (λ n. tos_of (λ (c : Cross). c.act) (λ (c : Cross). c.burst) n g.crosses))

  pub leads_filled : (rows : List (List ℕ)) (ls : List Link) (crosses : List Cross) (many : ℕ) → rows ≡ map (tos ls) (range_with_len 0 many) → many ≡ length g.bursts
      → ls ≡ map (λ (c : Cross). record { from = c.burst; to = c.act }) crosses → crosses ≡ g.crosses → rows ≡ map (links g names).leads (range_with_len 0 (length g.bursts))
  leads_filled rows ls crosses many e n l x =
      e ∙ ap (λ k. map (tos ls) (range_with_len 0 k)) n
      ∙ ap (λ ms. map (tos ms) (range_with_len 0 (length g.bursts))) (l ∙ ap (map (λ (c : Cross). record { from = c.burst; to = c.act })) x)
      ∙ ap (λ F. map F (range_with_len 0 (length g.bursts))) (fun_ext (λ b. tos_of (λ (c : Cross). c.burst) (λ (c : Cross). c.act) b g.crosses))

  -- ---- the acts that give a symbol
  outs_rows : (ys : List Act) (n : ℕ) → numbers_of (get_or (map (λ (y : Act). y.outs) ys) n []) ≡ get_or (map (λ (y : Act). numbers_of y.outs) ys) n []
  outs_rows [] n = refl
  outs_rows (y ∷ ys) zero = refl
  outs_rows (y ∷ ys) (suc n) = outs_rows ys n

  rows_once : (ys : List Act) → ((n : ℕ) → Distinct (numbers_of (get_or (map (λ (y : Act). y.outs) ys) n []))) → AllByRecursion Distinct (map (λ (y : Act). numbers_of y.outs) ys)
  rows_once [] h = tt
  rows_once (y ∷ ys) h = (h 0, rows_once ys (λ n. h (suc n)))

  pub givers_filled : (outs rows : List (List ℕ)) (ls : List Link) → rows ≡ map (tos ls) (range_with_len 0 names) → ls ≡ back 0 outs
      → outs ≡ map (λ (y : Act). numbers_of y.outs) g.acts → ((n : ℕ) → Distinct (outs_at g n)) → rows ≡ map (links g names).givers (range_with_len 0 names)
  givers_filled outs rows ls e l o once =
      e ∙ ap (λ ms. map (tos ms) (range_with_len 0 names)) (l ∙ ap (back 0) o) ∙ ap (λ F. map F (range_with_len 0 names)) (fun_ext at)
    where
      all : List (List ℕ)
      all = map (λ (y : Act). numbers_of y.outs) g.acts

      at : (a : ℕ) → tos (back 0 all) a ≡ filter (λ n. is_in a (outs_at g n)) (range_with_len 0 (length g.acts))
      at a =
          back_rows (outs_at g) a 0 all (λ j low. let z : 0 + j ≡ j = omega arith in ap (outs_at g) z ∙ outs_rows g.acts j) (rows_once g.acts once)
          ∙ ap (λ k. filter (λ n. is_in a (outs_at g n)) (range_with_len 0 k)) (length-map g.acts (λ (y : Act). numbers_of y.outs))

  -- ---- the burst of a symbol
  home_rows : (a : ℕ) (bs : List (List Sym)) → position_or_len (is_in a) (map numbers_of bs) ≡ position_or_len (has_sym (record { 0 = a })) bs
  home_rows a [] = refl
  home_rows a (b ∷ bs) = ap (λ t. cond (not t) (1 + position_or_len (is_in a) (map numbers_of bs)) 0) (sym (same_member a b))
      ∙ ap (λ k. cond (not (has_sym (record { 0 = a }) b)) (1 + k) 0) (home_rows a bs)

  pub homes_filled : (symbols rows : List (List ℕ)) (ls : List Link) (all : List ℕ) (none : ℕ) → all ≡ map (first_or none) rows
      → rows ≡ map (tos ls) (range_with_len 0 names) → ls ≡ back 0 symbols → symbols ≡ map numbers_of g.bursts → none ≡ length g.bursts
      → all ≡ map (links g names).home (range_with_len 0 names)
  homes_filled symbols rows ls all none f e l s n =
      f ∙ ap (map (first_or none)) (e ∙ ap (λ ms. map (tos ms) (range_with_len 0 names)) (l ∙ ap (back 0) s))
      ∙ map_map (first_or none) (tos (back 0 (map numbers_of g.bursts))) (range_with_len 0 names) ∙ ap (λ F. map F (range_with_len 0 names)) (fun_ext at)
    where
      at : (a : ℕ) → first_or none (tos (back 0 (map numbers_of g.bursts)) a) ≡ position_or_len (has_sym (record { 0 = a })) g.bursts
      at a =
          let long : none ≡ 0 + length (map numbers_of g.bursts) = omega (arith, n, length-map g.bursts numbers_of) in
          let z : 0 + position_or_len (is_in a) (map numbers_of g.bursts) ≡ position_or_len (is_in a) (map numbers_of g.bursts) = omega arith in
          ap (λ k. first_or k (tos (back 0 (map numbers_of g.bursts)) a)) long ∙ back_first a 0 (map numbers_of g.bursts) ∙ z ∙ home_rows a g.bursts
