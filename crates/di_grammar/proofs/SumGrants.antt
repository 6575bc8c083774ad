-- What the sums take for a grant is one.
use Rattle.std.specs.Prelude.{IsTrue}
use Rattle.std.proofs.Common.{◌≡◌, ◌↔◌, inl, inr, ℕ, ◌<◌, Bool, true, false, true≢false, List, [], ◌∷◌, length, Option, Some, None, refl, sym, ap, ◌∙◌, arith, if◌then◌else◌}
use Rattle.cmd_tree.specs.declared.tree.Dir.{Dir}
use Rattle.cmd_tree.specs.declared.tree.Dir.TheVariants.{Input, Output}
use Rattle.cmd_tree.specs.declared.tree.Mark.{Mark}
use Rattle.cmd_tree.specs.declared.tree.Proc.{Proc}
use Rattle.cmd_tree.specs.Tree.{TItem, TSeq, TSeqs, TBurst, TAlt, Stop, Or, Done, Then}
use Rattle.cmd_tree.specs.Marks.{is_output, input, output}
use Rattle.process_laws.specs.GrantForms.{Giving, single, lone, gifts, plain, loans, release, granted_of}
use Rattle.basic_kinds.specs.Sums.{Counted}
use Rattle.di_grammar.specs.Grants.{gifts_from, IsGrant}
use Rattle.di_grammar.specs.Sums.{one_output, one_input, gift, pair, loan, put, all_of, plain_ring, release_ring, of_several, after_input, body_ring, ring_of_parts, is_ring, grants}

-- ---- one alternative

marked : (m : Mark) (a : ℕ) (d : Dir) → m.sym.0 ≡ a → m.dir ≡ d → m ≡ record { sym = record { 0 = a }; dir = d }
marked m a d s i = ap (λ (b : ℕ). record { sym = record { 0 = b }; dir = m.dir }) s ∙ ap (λ (e : Dir). record { sym = record { 0 = a }; dir = e }) i

mark_output : (m : Mark) (p : ℕ) → (if is_output m.dir then Some m.sym.0 else None) ≡ Some p → m ≡ output p
mark_output m p e = by m.dir refl e
  where
    by : (d : Dir) → m.dir ≡ d → (if is_output d then Some m.sym.0 else None) ≡ Some p → m ≡ output p
    by Input i e = absurd (cc)
    by Output i e = let s : m.sym.0 ≡ p = cc in marked m p Output s i

mark_input : (m : Mark) (n : ℕ) → (if is_output m.dir then None else Some m.sym.0) ≡ Some n → m ≡ input n
mark_input m n e = by m.dir refl e
  where
    by : (d : Dir) → m.dir ≡ d → (if is_output d then None else Some m.sym.0) ≡ Some n → m ≡ input n
    by Output i e = absurd (cc)
    by Input i e = let s : m.sym.0 ≡ n = cc in marked m n Input s i

output_is : (i : TItem) (p : ℕ) → one_output i ≡ Some p → i ≡ single (output p)
output_is (TBurst []) p e = absurd (cc)
output_is (TBurst (m ∷ [])) p e = ap (λ m. TBurst (m ∷ [])) (mark_output m p e)
output_is (TBurst (m ∷ n ∷ ms)) p e = absurd (cc)
output_is (TAlt ss) p e = absurd (cc)

input_is : (i : TItem) (n : ℕ) → one_input i ≡ Some n → i ≡ single (input n)
input_is (TBurst []) n e = absurd (cc)
input_is (TBurst (m ∷ [])) n e = ap (λ m. TBurst (m ∷ [])) (mark_input m n e)
input_is (TBurst (m ∷ o ∷ ms)) n e = absurd (cc)
input_is (TAlt ss) n e = absurd (cc)

gift_is : (s : TSeq) (p : ℕ) → gift s ≡ Some p → s ≡ lone (single (output p))
gift_is Done p e = absurd (cc)
gift_is (Then i Done) p e = ap (λ i. Then i Done) (output_is i p e)
gift_is (Then i (Then j s)) p e = absurd (cc)

pair_is : (x y : Option ℕ) (g : Giving) → pair x y ≡ Some g → (x ≡ Some g.granted) × (y ≡ Some g.returned)
pair_is None y g e = absurd (cc)
pair_is (Some p) None g e = absurd (cc)
pair_is (Some p) (Some d) g e = let z : record { granted = p; returned = d } ≡ g = cc in (ap (λ (g : Giving). Some g.granted) z, ap (λ (g : Giving). Some g.returned) z)

loan_is : (s : TSeq) (g : Giving) → loan s ≡ Some g → s ≡ Then (single (output g.granted)) (lone (single (input g.returned)))
loan_is Done g e = absurd (cc)
loan_is (Then i Done) g e = absurd (cc)
loan_is (Then i (Then j Done)) g e =
    let (out, in_) = pair_is (one_output i) (one_input j) g e in
    ap (λ i. Then i (Then j Done)) (output_is i g.granted out) ∙ ap (λ j. Then (single (output g.granted)) (Then j Done)) (input_is j g.returned in_)
loan_is (Then i (Then j (Then k s))) g e = absurd (cc)

-- ---- all alternatives

put_is : {A : Type 0} (x : Option A) (xs : Option (List A)) (ys : List A) → put x xs ≡ Some ys → (z : A) × (zs : List A) × (x ≡ Some z) × (xs ≡ Some zs) × (ys ≡ z ∷ zs)
put_is None xs ys e = absurd (cc)
put_is (Some x) None ys e = absurd (cc)
put_is (Some x) (Some xs) ys e = (x, xs, refl, refl, cc)

all_gifts : (ss : TSeqs) (ps : List ℕ) → all_of gift ss ≡ Some ps → ss ≡ gifts ps
all_gifts Stop ps e = let z : ps ≡ [] = cc in ap gifts (sym z)
all_gifts (Or s ss) ps e =
    let (p, qs, one, rest, is) = put_is (gift s) (all_of gift ss) ps e in
    ap (λ s. Or s ss) (gift_is s p one) ∙ ap (λ ss. Or (lone (single (output p))) ss) (all_gifts ss qs rest) ∙ ap gifts (sym is)

all_loans : (ss : TSeqs) (gs : List Giving) → all_of loan ss ≡ Some gs → ss ≡ loans gs
all_loans Stop gs e = let z : gs ≡ [] = cc in ap loans (sym z)
all_loans (Or s ss) gs e =
    let (g, hs, one, rest, is) = put_is (loan s) (all_of loan ss) gs e in
    ap (λ s. Or s ss) (loan_is s g one) ∙ ap (λ ss. Or (Then (single (output g.granted)) (lone (single (input g.returned)))) ss) (all_loans ss hs rest) ∙ ap loans (sym is)

gifts_all : (ps : List ℕ) → all_of gift (gifts ps) ≡ Some ps
gifts_all [] = refl
gifts_all (p ∷ ps) = ap (λ xs. put (Some p) xs) (gifts_all ps)

loans_all : (gs : List Giving) → all_of loan (loans gs) ≡ Some gs
loans_all [] = refl
loans_all (g ∷ gs) = ap (λ xs. put (Some g) xs) (loans_all gs)

several_is : {A : Type 0} (f : List A → List Counted) (o : Option (List A)) → is_ring (of_several f o) ≡ true → (xs : List A) × (1 < length xs) × (o ≡ Some xs)
several_is f None e = absurd (true≢false (sym e))
several_is f (Some []) e = absurd (true≢false (sym e))
several_is f (Some (x ∷ [])) e = absurd (true≢false (sym e))
several_is f (Some (x ∷ y ∷ xs)) e = (x ∷ y ∷ xs, omega arith, refl)

is_several : {A : Type 0} (f : List A → List Counted) (xs : List A) → 1 < length xs → is_ring (of_several f (Some xs)) ≡ true
is_several f [] h = absurd (omega arith)
is_several f (x ∷ []) h = absurd (omega arith)
is_several f (x ∷ y ∷ xs) h = refl

-- ---- the process

release_of : (p : Proc) (gs : List Giving) → 1 < length gs → p ≡ release gs → IsGrant p
release_of p gs many is = (gifts_from 1 2 (granted_of gs), inr (record { givings = gs; many = many; is = is; gives = refl }))

plain_of : (p : Proc) (n : ℕ) (ps : List ℕ) → 1 < length ps → p ≡ plain n ps → IsGrant p
plain_of p n ps many is = (gifts_from 2 1 ps, inl (record { asks = n; symbols = ps; many = many; is = is; gives = refl }))

whole : (p : Proc) (lead body : Option TSeq) → p.lead ≡ lead → p.body ≡ body → p ≡ record { lead = lead; body = body }
whole p lead body l b = ap (λ (x : Option TSeq). record { lead = x; body = p.body }) l ∙ ap (λ (y : Option TSeq). record { lead = lead; body = y }) b

after_is : (x : Option ℕ) (o : Option (List Counted)) → is_ring (after_input x o) ≡ true → (n : ℕ) × (x ≡ Some n) × (is_ring o ≡ true)
after_is None o e = absurd (true≢false (sym e))
after_is (Some n) o e = (n, refl, e)

body_grants : (p : Proc) (s : TSeq) → p.lead ≡ None → p.body ≡ Some s → is_ring (body_ring s) ≡ true → IsGrant p
body_grants p Done l b e = absurd (true≢false (sym e))
body_grants p (Then (TBurst ms) Done) l b e = absurd (true≢false (sym e))
body_grants p (Then (TAlt ss) Done) l b e =
    let (gs, many, all) = several_is release_ring (all_of loan ss) e in
    release_of p gs many (whole p None (Some (Then (TAlt ss) Done)) l b ∙ ap (λ ss. record { lead = None; body = Some (Then (TAlt ss) Done) }) (all_loans ss gs all))
body_grants p (Then (TAlt ts) (Then (TAlt ss) Done)) l b e = absurd (true≢false (sym e))
body_grants p (Then (TBurst ms) (Then (TAlt ss) Done)) l b e =
    let (n, asks, rest) = after_is (one_input (TBurst ms)) (of_several plain_ring (all_of gift ss)) e in
    let (ps, many, all) = several_is plain_ring (all_of gift ss) rest in
    plain_of p n ps many
    (whole p None (Some (Then (TBurst ms) (Then (TAlt ss) Done))) l b
    ∙ ap (λ i. record { lead = None; body = Some (Then i (Then (TAlt ss) Done)) }) (input_is (TBurst ms) n asks)
    ∙ ap (λ ss. record { lead = None; body = Some (Then (single (input n)) (Then (TAlt ss) Done)) }) (all_gifts ss ps all))
body_grants p (Then (TBurst ns) (Then (TBurst ms) s)) l b e = absurd (true≢false (sym e))
body_grants p (Then (TAlt ts) (Then (TBurst ms) s)) l b e = absurd (true≢false (sym e))
body_grants p (Then (TBurst ns) (Then (TAlt ss) (Then j s))) l b e = absurd (true≢false (sym e))
body_grants p (Then (TAlt ts) (Then (TAlt ss) (Then j s))) l b e = absurd (true≢false (sym e))

parts_grant : (p : Proc) (lead body : Option TSeq) → p.lead ≡ lead → p.body ≡ body → is_ring (ring_of_parts lead body) ≡ true → IsGrant p
parts_grant p None None l b e = absurd (true≢false (sym e))
parts_grant p None (Some s) l b e = body_grants p s l b e
parts_grant p (Some s) body l b e = absurd (true≢false (sym e))

pub grants_are : (p : Proc) → grants p ≡ true ↔ IsGrant p
grants_are p = ((λ e. parts_grant p p.lead p.body refl refl e), back)
  where
    back : IsGrant p → grants p ≡ true
    back (gs, inl g) = ap grants g.is ∙ ap (λ o. is_ring (of_several plain_ring o)) (gifts_all g.symbols) ∙ is_several plain_ring g.symbols g.many
    back (gs, inr g) = ap grants g.is ∙ ap (λ o. is_ring (of_several release_ring o)) (loans_all g.givings) ∙ is_several release_ring g.givings g.many

same_tests : (a b : Bool) → (a ≡ true → b ≡ true) → (b ≡ true → a ≡ true) → a ≡ b
same_tests true b f g = sym (f refl)
same_tests false true f g = g refl
same_tests false false f g = refl

-- what says whether the process is a grant says what the sums take it for
pub counted_alike : (p : Proc) (b : Bool) → IsTrue b ↔ IsGrant p → b ≡ grants p
counted_alike p b h = same_tests b (grants p) (λ t. (grants_are p).1 (h.0 t)) (λ t. h.1 ((grants_are p).0 t))
