-- A text has one first fault at most, and the text of a network has none.
use Rattle.std.proofs.Common.{◌≡◌, ◌≢◌, ◌⊎◌, ℕ, zero, suc, ◌+◌, ◌<◌, ◌≤◌, ◌^◌, Bool, true, false, List, [], ◌∷◌, ◌++◌, length, drop, inl, inr, refl, sym, ap, ◌∙◌, subst, arith, append_assoc, append-nil, length-append}
use Rattle.std.specs.Prelude.{IsTrue, codes, flat_map, decimal}
use Rattle.std.specs.List.{AllByRecursion, range_with_len}
use Rattle.std.proofs.lemmas.List.{append_cancel_left}
use Rattle.std.proofs.lemmas.List.FromFn.{get_or-range_with_len, length-range_with_len}
use Rattle.cmd_tree.specs.declared.command.Command.{Command}
use Rattle.cmd_tree.specs.declared.limits.TheConstants.{MAX_COMPONENTS, MAX_NETLIST_WIRES}
use Rattle.cmd_tree.specs.Limits.{marks_of_all, is_name}
use Rattle.cmd_text.specs.Canonical.{procs_text}
use Rattle.di_grammar.specs.declared.answer.Broken.{Broken}
use Rattle.di_grammar.specs.Admitted.{Admitted, IsBroken}
use Rattle.di_grammar.proofs.Answering.{broken_not_admitted}
use Rattle.net_core.specs.declared.spec.NodeSpec.TheVariants.{Cmd}
use Rattle.net_core.specs.Specs.{gives_symbol, is_kind}
use Rattle.net_core.specs.Wiring.{Node, Circuit, IsOnce, IsWired}
use Rattle.net_core.proofs.Sizes.{all_append}
use Rattle.net_text.specs.declared.refusal.NetRefusal.{NetRefusal}
use Rattle.net_text.specs.declared.refusal.NetRefusal.TheVariants as told
use Rattle.net_text.specs.NetText.{node_line, mark_sign, command_net_text, nodes_net_text}
use Rattle.net_text.specs.NetFault.{IsLine, version_line, spec_line, symbol_line, symbol_lines, port_lines, last_line, IsPart, IsPartLine, Place, Version, Spec, Ports, Parts, Over, behind_spec, Leads, version, spec, port, part, last, IsOfForm, IsFaulty, bad, refused, many, IsDue, IsFirstFault, later, here, cut, behind, open_port, NetFault, IsLeastOpen, IsNetlist, with_wires, with_parts, network}
use Rattle.net_text.specs.Mirror.Stages.{text_of, parts_text}
use Rattle.net_text.proofs.CommandLine.{AreRead, is_in_line, InLine, command_in_line, name_in_line, same_text}
use Rattle.net_text.proofs.Told.{IsPart as IsSmallPart, spec_apart, spec_begins, IsToldBy, told_by, same_ends, networks_told}
use Rattle.net_text.proofs.PartLines.{word_clean, decimal_clean, part_has_line}
use Rattle.net_text.proofs.Counted.{with_small}
use Rattle.net_text.proofs.WholeNet.{text_lines}

compared : (a b : ℕ) → (a < b) ⊎ ((a ≡ b) ⊎ (b < a))
compared zero zero = inr (inl refl)
compared zero (suc b) = inl (omega arith)
compared (suc a) zero = inr (inr (omega arith))
compared (suc a) (suc b) = elim (compared a b) [
  | inl l ↦ inl (omega (arith, l))
  | inr (inl e) ↦ inr (inl (ap suc e))
  | inr (inr g) ↦ inr (inr (omega (arith, g)))
]

-- ---- the first line of a text
split_one : (l m r s : List ℕ) → IsLine l → IsLine m → l ++ 10 ∷ r ≡ m ++ 10 ∷ s → (l ≡ m) × (r ≡ s)
split_one [] [] r s h k e = (refl, (let z : r ≡ s = cc in z))
split_one [] (y ∷ m) r s h k e = absurd (k.0 (let z : 10 ≡ y = cc in sym z))
split_one (x ∷ l) [] r s h k e = absurd (h.0 (let z : x ≡ 10 = cc in z))
split_one (x ∷ l) (y ∷ m) r s h k e =
    let first : x ≡ y = cc in
    let rest : l ++ 10 ∷ r ≡ m ++ 10 ∷ s = cc in
    let more = split_one l m r s h.1 k.1 rest in
    ((λ i. first i ∷ more.0 i), more.1)

feed_in : (l r : List ℕ) → IsLine (l ++ 10 ∷ r) → ⊥
feed_in [] r h = h.0 refl
feed_in (x ∷ l) r h = feed_in l r h.1

no_split : (bytes l r : List ℕ) → IsLine bytes → bytes ≡ l ++ 10 ∷ r → ⊥
no_split bytes l r h e = feed_in l r (subst IsLine e h)

some_split : (bytes l r : List ℕ) → bytes ≡ [] → bytes ≡ l ++ 10 ∷ r → ⊥
some_split bytes l r e f = no_split [] l r tt (sym e ∙ f)

-- ---- components with the same line
small_ends : (ws : List ℕ) → AllByRecursion (λ w. w < MAX_NETLIST_WIRES) ws → AllByRecursion (λ w. w < 2 ^ 64) ws
small_ends [] h = tt
small_ends (w ∷ ws) h = (omega (arith, h.0), small_ends ws h.1)

small_part : (x : Node) → IsPart x → IsSmallPart x.spec x.ends
small_part x p = record { basic = p.basic; sized = p.sized; formed = p.formed; small = small_ends x.ends p.small }

same_part : (l : List ℕ) (x y : Node) → IsPartLine l x → IsPartLine l y → x ≡ y
same_part l x y h k =
    let told = spec_apart x.spec y.spec x.ends y.ends [] [] (small_part x h.0) (small_part y k.0)
    (ap (λ (t : List ℕ). t ++ []) (h.1 ∙ sym k.1)) in
    λ i. record { spec = told.0 i; ends = told.1 i }

part_end : (l : List ℕ) (x : Node) → IsPartLine l x → l ≡ last_line → ⊥
part_end l x h e = spec_begins x.spec x.ends [] (codes "nd\n") (small_part x h.0)
    (append-nil (node_line x) ∙ h.1 ∙ ap (λ (t : List ℕ). t ++ codes "\n") e)

module _ (law : AreRead) where
  same_spec : (l : List ℕ) (c d : Command) → l ≡ spec_line c → l ≡ spec_line d → c ≡ d
  same_spec l c d e f = same_text law c d
      (append_cancel_left (codes "spec ") (procs_text c.names c.procs) (procs_text d.names d.procs) (sym e ∙ f))

  -- a right line leads to one place
  leads_one : (p : Place) (l : List ℕ) (a b : Place) → Leads p l a → Leads p l b → a ≡ b
  leads_one _ l _ _ (version _ e) (version _ f) = refl
  leads_one _ l _ _ (spec c _ e h) (spec d _ f k) = ap (λ (x : Command). behind_spec x (port_lines x)) (same_spec l c d e f)
  leads_one _ l _ _ (port c due ls _ e) (port _ _ _ _ f) = refl
  leads_one _ l _ _ (part c xs x _ m h) (part _ _ y _ n k) = ap (λ (z : Node). Parts c (xs ++ z ∷ [])) (same_part l x y h k)
  leads_one _ l _ _ (part c xs x _ m h) (last _ _ _ f) = absurd (part_end l x h f)
  leads_one _ l _ _ (last c xs _ e) (part _ _ y _ n k) = absurd (part_end l y k e)
  leads_one _ l _ _ (last c xs _ e) (last _ _ _ f) = refl

  form_of : (p : Place) (l : List ℕ) (a : Place) → Leads p l a → IsOfForm p l
  form_of _ l _ (version _ e) = e
  form_of _ l _ (spec c _ e h) = (c, e)
  form_of _ l _ (port c due ls _ e) = e
  form_of _ l _ (part c xs x _ m h) = inl (x, h)
  form_of _ l _ (last c xs _ e) = inr e

  -- and has no fault
  faultless : (p : Place) (n : ℕ) (l : List ℕ) (a : Place) (r : NetRefusal) → Leads p l a → IsFaulty p n l r → ⊥
  faultless p n l a _ h (bad _ _ _ none) = none (form_of p l a h)
  faultless _ n l _ _ (spec c _ e h) (refused _ _ d b f k) =
      broken_not_admitted d.procs b k (subst (λ (x : Command). Admitted x.procs) (same_spec l c d e f) h)
  faultless _ n l _ _ (part c xs x _ m h) (many _ _ _ _ y k q) = omega (arith, m, k)
  faultless _ n l _ _ (last c xs _ e) (many _ _ _ _ y k q) = part_end l y q e

  same_rule : (c : Command) (a b : Broken) → IsBroken c.procs a → IsBroken c.procs b → a.rule ≡ b.rule
  same_rule c a b h k = elim (compared a.rule b.rule) [
    | inl l ↦ absurd (k.earlier h.rule (omega (arith, l, h.number)) _ h.first.0)
    | inr (inl e) ↦ e
    | inr (inr g) ↦ absurd (h.earlier k.rule (omega (arith, g, k.number)) _ k.first.0)
  ]

  faulty_one : (p : Place) (n : ℕ) (l : List ℕ) (r s : NetRefusal) → IsFaulty p n l r → IsFaulty p n l s → r ≡ s
  faulty_one p n l _ _ (bad _ _ _ f) (bad _ _ _ g) = refl
  faulty_one _ n l _ _ (bad _ _ _ f) (refused _ _ d b e k) = absurd (f (d, e))
  faulty_one _ n l _ _ (bad _ _ _ f) (many c xs _ _ y k q) = absurd (f (inl (y, q)))
  faulty_one _ n l _ _ (refused _ _ d b e k) (bad _ _ _ f) = absurd (f (d, e))
  faulty_one _ n l _ _ (refused _ _ c a e h) (refused _ _ d b f k) =
      ap told.SpecRefused (same_rule d a b (subst (λ (x : Command). IsBroken x.procs a) (same_spec l c d e f) h) k)
  faulty_one _ n l _ _ (many c xs _ _ y k q) (bad _ _ _ f) = absurd (f (inl (y, q)))
  faulty_one _ n l _ _ (many c xs _ _ y k q) (many _ _ _ _ z m o) = refl

  -- behind a right line the fault is that of the rest
  module _ (p q : Place) (n : ℕ) (bytes line rest : List ℕ) (s : NetRefusal) (e : bytes ≡ line ++ 10 ∷ rest) (il : IsLine line)
      (h : Leads p line q) where
    later_right : (a : Place) (l r : List ℕ) → bytes ≡ l ++ 10 ∷ r → IsLine l → Leads p l a → IsFirstFault a (n + 1) r s
        → IsFirstFault q (n + 1) rest s
    later_right a l r f jl k g =
        let both = split_one line l rest r il jl (sym e ∙ f) in
        let same : q ≡ a = leads_one p line q a h (subst (λ (u : List ℕ). Leads p u a) (sym both.0) k) in
        subst (λ (b : Place). IsFirstFault b (n + 1) rest s) (sym same) (subst (λ (u : List ℕ). IsFirstFault a (n + 1) u s) (sym both.1) g)

    here_right : (l r : List ℕ) → bytes ≡ l ++ 10 ∷ r → IsLine l → IsFaulty p n l s → ⊥
    here_right l r f jl k = faultless p n line q s h
        (subst (λ (u : List ℕ). IsFaulty p n u s) (sym (split_one line l rest r il jl (sym e ∙ f)).0) k)

  behind_right : (p q : Place) (n : ℕ) (bytes line rest : List ℕ) (s : NetRefusal) → bytes ≡ line ++ 10 ∷ rest → IsLine line
      → Leads p line q → IsFirstFault p n bytes s → IsFirstFault q (n + 1) rest s
  behind_right p q n bytes line rest s e il h (later _ a _ _ l r _ f jl k g) = later_right p q n bytes line rest s e il h a l r f jl k g
  behind_right p q n bytes line rest s e il h (here _ _ _ l r _ f jl k) = absurd (here_right p q n bytes line rest s e il h l r f jl k)
  behind_right p q n bytes line rest _ e il h (cut _ _ _ jl d) = absurd (no_split bytes line rest jl e)
  behind_right _ q n bytes line rest _ e il h (behind c xs _ _ jl d) = absurd (no_split bytes line rest jl e)
  behind_right _ q n bytes line rest _ e il h (open_port c xs _ w _ f d) = absurd (some_split bytes line rest f e)

  -- where the first line is faulty
  faulty_here : (p : Place) (n : ℕ) (bytes line rest : List ℕ) (r s : NetRefusal) → bytes ≡ line ++ 10 ∷ rest → IsLine line
      → IsFaulty p n line r → IsFirstFault p n bytes s → r ≡ s
  faulty_here p n bytes line rest r s e il h (later _ a _ _ l t _ f jl k g) =
      absurd (here_right p a n bytes l t r f jl k line rest e il h)
  faulty_here p n bytes line rest r s e il h (here _ _ _ l t _ f jl k) =
      faulty_one p n line r s h (subst (λ (u : List ℕ). IsFaulty p n u s) (sym (split_one line l rest t il jl (sym e ∙ f)).0) k)
  faulty_here p n bytes line rest r _ e il h (cut _ _ _ jl d) = absurd (no_split bytes line rest jl e)
  faulty_here _ n bytes line rest r _ e il h (behind c xs _ _ jl d) = absurd (no_split bytes line rest jl e)
  faulty_here _ n bytes line rest r _ e il h (open_port c xs _ w _ f d) = absurd (some_split bytes line rest f e)

  least_one : (c : Circuit) (v w : ℕ) → IsLeastOpen c v → IsLeastOpen c w → v ≡ w
  least_one c v w h k = elim (compared v w) [
    | inl l ↦ absurd (h.open_end (k.least v l))
    | inr (inl e) ↦ e
    | inr (inr g) ↦ absurd (k.open_end (h.least w g))
  ]

  cut_one : (p : Place) (n : ℕ) (bytes : List ℕ) (s : NetRefusal) → IsLine bytes → IsDue p → IsFirstFault p n bytes s → told.Truncated n ≡ s
  cut_one p n bytes s il d (later _ a _ _ l t _ f jl k g) = absurd (no_split bytes l t il f)
  cut_one p n bytes s il d (here _ _ _ l t _ f jl k) = absurd (no_split bytes l t il f)
  cut_one p n bytes _ il d (cut _ _ _ jl k) = refl
  cut_one _ n bytes _ il d (behind c xs _ _ jl k) = absurd d
  cut_one _ n bytes _ il d (open_port c xs _ w _ f k) = absurd d

  behind_one : (c : Command) (xs : List Node) (n : ℕ) (bytes : List ℕ) (s : NetRefusal) → IsLine bytes → 0 < length bytes
      → IsFirstFault (Over c xs) n bytes s → told.BadLine n ≡ s
  behind_one c xs n bytes s il some (later _ a _ _ l t _ f jl k g) = absurd (no_split bytes l t il f)
  behind_one c xs n bytes s il some (here _ _ _ l t _ f jl k) = absurd (no_split bytes l t il f)
  behind_one c xs n bytes _ il some (cut _ _ _ jl d) = absurd d
  behind_one c xs n bytes _ il some (behind _ _ _ _ jl k) = refl
  behind_one c xs n bytes _ il some (open_port _ _ _ w _ f k) = absurd (omega (arith, some, ap length f))

  -- of a whole netlist
  pub open_of : (c : Command) (xs : List Node) (n : ℕ) (bytes : List ℕ) (s : NetRefusal) → bytes ≡ [] → IsFirstFault (Over c xs) n bytes s
      → (w : ℕ) × IsLeastOpen (network c xs) w × (s ≡ told.OpenPort w)
  open_of c xs n bytes s e (later _ a _ _ l t _ f jl k g) = absurd (some_split bytes l t e f)
  open_of c xs n bytes s e (here _ _ _ l t _ f jl k) = absurd (some_split bytes l t e f)
  open_of c xs n bytes _ e (cut _ _ _ jl d) = absurd d
  open_of c xs n bytes _ e (behind _ _ _ _ jl k) = absurd (omega (arith, k, ap length e))
  open_of c xs n bytes _ e (open_port _ _ _ w _ f k) = (w, k, refl)

  open_one : (c : Command) (xs : List Node) (n w : ℕ) (bytes : List ℕ) (s : NetRefusal) → bytes ≡ [] → IsLeastOpen (network c xs) w
      → IsFirstFault (Over c xs) n bytes s → told.OpenPort w ≡ s
  open_one c xs n w bytes s e h f =
      let o = open_of c xs n bytes s e f in
      ap told.OpenPort (least_one (network c xs) w o.0 h o.1) ∙ sym o.2

  -- one first fault
  pub one_first : (p : Place) (n : ℕ) (bytes : List ℕ) (r s : NetRefusal) → IsFirstFault p n bytes r → IsFirstFault p n bytes s → r ≡ s
  one_first p n bytes r s (later _ q _ _ l t _ e il h f) g =
      one_first q (n + 1) t r s f (behind_right p q n bytes l t s e il h g)
  one_first p n bytes r s (here _ _ _ l t _ e il h) g = faulty_here p n bytes l t r s e il h g
  one_first p n bytes _ s (cut _ _ _ il d) g = cut_one p n bytes s il d g
  one_first _ n bytes _ s (behind c xs _ _ il d) g = behind_one c xs n bytes s il d g
  one_first _ n bytes _ s (open_port c xs _ w _ e h) g = open_one c xs n w bytes s e h g

-- ---- the text of a network
in_line : (bs : List ℕ) → InLine bs → IsLine bs
in_line bs h = word_clean is_in_line 10 bs refl h

spec_in_line : (c : Command) → IsLine (spec_line c)
spec_in_line c = all_append (λ (b : ℕ). b ≢ 10) (codes "spec ") (procs_text c.names c.procs)
    (in_line (codes "spec ") (refl, (refl, (refl, (refl, (refl, tt))))))
    (in_line (procs_text c.names c.procs) (command_in_line c.names c.procs c.valid))

sign_in_line : (b : Bool) → IsLine (mark_sign b)
sign_in_line true = in_line (codes "!") (refl, tt)
sign_in_line false = in_line (codes "?") (refl, tt)

symbol_in_line : (name : List ℕ) (b : Bool) (k : ℕ) → IsTrue (is_name name) → k < 2 ^ 64 → IsLine (symbol_line name b k)
symbol_in_line name b k h l =
    let clean : ℕ → Type 0 = λ m. m ≢ 10 in
    let front = all_append clean (codes "port ") name (in_line (codes "port ") (refl, (refl, (refl, (refl, (refl, tt)))))) (in_line name (name_in_line name h)) in
    let signed = all_append clean (codes "port " ++ name) (mark_sign b) front (sign_in_line b) in
    let blank = all_append clean (codes "port " ++ name ++ mark_sign b) (codes " ") signed (in_line (codes " ") (refl, tt)) in
    all_append clean (codes "port " ++ name ++ mark_sign b ++ codes " ") (decimal k) blank (decimal_clean 10 k refl l)

symbols_in_line : (f : ℕ → Bool) (k : ℕ) (names : List (List ℕ)) → AllByRecursion (λ n. IsTrue (is_name n)) names → k + length names ≤ 2 ^ 32
    → AllByRecursion IsLine (symbol_lines f k names)
symbols_in_line f k [] h l = tt
symbols_in_line f k (n ∷ names) h l =
    (symbol_in_line n (f k) k h.0 (omega (arith, l)), symbols_in_line f (k + 1) names h.1 (omega (arith, l)))

ports_in_line : (c : Command) → AllByRecursion IsLine (port_lines c)
ports_in_line c = symbols_in_line (gives_symbol (marks_of_all c.procs)) 0 c.names c.valid.formed (omega (arith, c.valid.few_symbols))

version_in_line : IsLine version_line
version_in_line = in_line version_line (refl, (refl, (refl, (refl, (refl, (refl, (refl, tt)))))))

end_in_line : IsLine last_line
end_in_line = in_line last_line (refl, (refl, (refl, tt)))

module _ (law : AreRead) (c : Command) (r : NetRefusal) where
  ports_right : (ls : List (List ℕ)) (n : ℕ) (rest : List ℕ) → AllByRecursion IsLine ls → IsFirstFault (behind_spec c ls) n (text_of ls ++ rest) r
      → (m : ℕ) × IsFirstFault (Parts c []) m rest r
  ports_right [] n rest h f = (n, f)
  ports_right (l ∷ ls) n rest h f =
      ports_right ls (n + 1) rest h.1 (behind_right law (Ports c l ls) (behind_spec c ls) n (text_of (l ∷ ls) ++ rest) l (text_of ls ++ rest) r
      (append_assoc l (10 ∷ text_of ls) rest) h.0 (port c l ls l refl) f)

  parts_right : (zs ys : List Node) (n : ℕ) → AllByRecursion IsPart ys → length zs + length ys ≤ MAX_COMPONENTS
      → IsFirstFault (Parts c zs) n (parts_text ys) r → (m : ℕ) × IsFirstFault (Over c (zs ++ ys)) m [] r
  parts_right zs [] n h l f = (
    n + 1,
    subst (λ (xs : List Node). IsFirstFault (Over c xs) (n + 1) [] r) (sym (append-nil zs))
        (behind_right law (Parts c zs) (Over c zs) n (codes "end\n") last_line [] r refl end_in_line (last c zs last_line refl) f),
  )
  parts_right zs (y ∷ ys) n h l f =
      let p = part_has_line y h.0 in
      let opened : parts_text (y ∷ ys) ≡ p.line ++ 10 ∷ parts_text ys = append_assoc (node_line y) (flat_map node_line ys) (codes "end\n")
      ∙ ap (λ (t : List ℕ). t ++ parts_text ys) p.is ∙ append_assoc p.line (codes "\n") (parts_text ys) in
      let next = behind_right law (Parts c zs) (Parts c (zs ++ y ∷ [])) n (parts_text (y ∷ ys)) p.line (parts_text ys) r opened p.clean
      (part c zs y p.line (omega (arith, l)) (h.0, p.is)) f in
      let last_one = parts_right (zs ++ y ∷ []) ys (n + 1) h.1 (omega (arith, l, length-append zs (y ∷ []))) next in
      (last_one.0, subst (λ (xs : List Node). IsFirstFault (Over c xs) last_one.0 [] r) (append_assoc zs (y ∷ []) ys) last_one.1)

  whole_right : (xs : List Node) → Admitted c.procs → AllByRecursion IsPart xs → length xs ≤ MAX_COMPONENTS → NetFault (command_net_text c xs) r
      → (m : ℕ) × IsFirstFault (Over c xs) m [] r
  whole_right xs a h l f =
      let parts : List ℕ = parts_text xs in
      let ports : List ℕ = text_of (port_lines c) ++ parts in
      let one = behind_right law Version Spec 1 (command_net_text c xs) version_line (spec_line c ++ 10 ∷ ports) r (text_lines c xs) version_in_line
      (version version_line refl) f in
      let two = behind_right law Spec (behind_spec c (port_lines c)) 2 (spec_line c ++ 10 ∷ ports) (spec_line c) ports r refl (spec_in_line c)
      (spec c (spec_line c) refl a) one in
      let three = ports_right (port_lines c) 3 parts (ports_in_line c) two in
      parts_right [] xs three.0 h (omega (arith, l)) three.1

-- ---- a closed network has no open wire
parts_most : (n m : ℕ) (xs : List Node) → n ≤ m → AllByRecursion (IsWired m) xs → with_parts n xs ≤ m
parts_most n m [] h w = h
parts_most n m (x ∷ xs) h w = parts_most (with_wires n x.ends) m xs (with_small n m x.ends h w.0.known) w.1

range_most : (a n m : ℕ) → a ≤ m → AllByRecursion (λ w. w < m) (range_with_len a n) → a + n ≤ m
range_most a zero m l h = omega (arith, l)
range_most a (suc n) m l h = omega (arith, range_most (a + 1) n m (omega (arith, h.0)) h.1)

small_wires : (n : ℕ) (ws : List ℕ) → n ≤ MAX_NETLIST_WIRES → AllByRecursion (λ w. w < n) ws → AllByRecursion (λ w. w < MAX_NETLIST_WIRES) ws
small_wires n [] l h = tt
small_wires n (w ∷ ws) l h = (omega (arith, l, h.0), small_wires n ws l h.1)

are_parts : (n : ℕ) (xs : List Node) → n ≤ MAX_NETLIST_WIRES → AllByRecursion (IsWired n) xs
    → AllByRecursion (λ (x : Node). IsTrue (is_kind x.spec)) xs → AllByRecursion IsPart xs
are_parts n [] l w b = tt
are_parts n (x ∷ xs) l w b =
    (record { basic = b.0; sized = w.0.sized; formed = w.0.formed; small = small_wires n x.ends l w.0.known }, are_parts n xs l w.1 b.1)

abbrev env_of : Command → List ℕ → Node
env_of c ends = record { spec = Cmd c; ends = ends }

module _ (law : AreRead) (bytes : List ℕ) (net : Circuit) (r : NetRefusal) (it : IsNetlist bytes net) (f : NetFault bytes r) where
  abbrev Com : Command
  Com = it.told.command

  no_fault : ⊥
  no_fault =
      let t : IsToldBy Com net.nodes = told_by net.nodes net.wires it.told in
      let n : ℕ = length Com.names in
      let xs : List Node = t.parts in
      let ends : t.ends ≡ range_with_len 0 n = same_ends n t.ends (range_with_len 0 n) t.sized (length-range_with_len 0 n) t.placed
      (λ i l. get_or-range_with_len 0 n i 0 l ∙ omega arith) in
      let nodes : net.nodes ≡ env_of Com (range_with_len 0 n) ∷ xs = t.is ∙ ap (λ (es : List ℕ). env_of Com es ∷ xs) ends in
      let wired = subst (AllByRecursion (IsWired net.wires)) nodes it.told.network.wired in
      let basic = subst (λ (ns : List Node). AllByRecursion (λ (x : Node). IsTrue (is_kind x.spec)) (drop 1 ns)) nodes it.told.basic in
      let good = are_parts net.wires xs it.few_wires wired.1 basic in
      let few : length xs ≤ MAX_COMPONENTS = omega (arith, it.few_parts, ap length nodes) in
      let same : bytes ≡ command_net_text Com xs = it.text ∙ ap nodes_net_text nodes in
      let over = whole_right law Com r xs it.admitted good few (subst (λ (b : List ℕ). NetFault b r) same f) in
      let ends_open = open_of law Com xs over.0 [] r refl over.1 in
      let most : with_parts n xs ≤ net.wires = parts_most n net.wires xs (omega (arith, range_most 0 n net.wires (omega arith) wired.0.known)) wired.1 in
      let least : IsLeastOpen (network Com xs) ends_open.0 = ends_open.1 in
      let once = it.told.closed ends_open.0 (omega (arith, least.known, most)) in
      least.open_end (subst (λ (ns : List Node). IsOnce (record { nodes = ns; wires = net.wires }) ends_open.0) nodes once)

pub not_both : AreRead → (bytes : List ℕ) (net : Circuit) (r : NetRefusal) → IsNetlist bytes net → NetFault bytes r → ⊥
not_both law bytes net r it f = no_fault law bytes net r it f

pub one_net : AreRead → (bytes : List ℕ) (c d : Circuit) → IsNetlist bytes c → IsNetlist bytes d → c ≡ d
one_net law bytes c d f g = networks_told law c d f.told g.told (sym f.text ∙ g.text)

pub one_fault : AreRead → (bytes : List ℕ) (r s : NetRefusal) → NetFault bytes r → NetFault bytes s → r ≡ s
one_fault law bytes r s f g = one_first law Version 1 bytes r s f g
