-- Lists of different numbers with marks, one number more at a time.
use Rattle.std.proofs.Common.{◌≡◌, ◌≢◌, ℕ, ◌+◌, ◌<◌, Bool, true, false, List, [], ◌∷◌, ◌++◌, length, drop, get_or, ◌≤◌, refl, sym, ap, ◌∙◌, eq-eqb, ne_eqb, drop-cons, add-one, append_assoc, append-nil}
use Rattle.std.specs.Prelude.{◌||◌, nat_eq, slice_get, Some}
use Rattle.std.proofs.lemmas.List.{drop_all}
use Rattle.net_core.specs.Wiring.{Node, Circuit, picked, moved}
use Rattle.cmd_tree.specs.Lists.{is_in}
use Rattle.net_core.specs.Walk.{with_new, moved_at, moved_all}
use Rattle.net_core.specs.Mirror.Walking.{Listing}
use Rattle.net_core.proofs.Counting.{picked_here, picked_there, picked_none}

or_true : (b : Bool) → (b || true) ≡ true
or_true true = refl
or_true false = refl

pub is_in_last : (v : ℕ) (ns : List ℕ) → is_in v (ns ++ v ∷ []) ≡ true
is_in_last v [] = ap (λ b. b || false) (eq-eqb v v refl)
is_in_last v (x ∷ xs) = ap (λ b. nat_eq v x || b) (is_in_last v xs) ∙ or_true (nat_eq v x)

pub is_in_other : (n v : ℕ) (ns : List ℕ) → n ≢ v → is_in n (ns ++ v ∷ []) ≡ is_in n ns
is_in_other n v [] ne = ap (λ b. b || false) (ne_eqb n v ne)
is_in_other n v (x ∷ xs) ne = ap (λ b. nat_eq n x || b) (is_in_other n v xs ne)

-- one number put behind a list
pub new_one : (ns : List ℕ) (v : ℕ) → is_in v ns ≡ false → with_new ns (v ∷ []) ≡ ns ++ v ∷ []
unfolding with_new
new_one ns v e = rw e refl

pub old_one : (ns : List ℕ) (v : ℕ) → is_in v ns ≡ true → with_new ns (v ∷ []) ≡ ns
unfolding with_new
old_one ns v e = rw e refl

pub new_step : (ns vs : List ℕ) (i : ℕ) → i < length vs → with_new (with_new ns (get_or vs i 0 ∷ [])) (drop (i + 1) vs) ≡ with_new ns (drop i vs)
unfolding with_new
new_step ns vs i h = rw (drop-cons vs i 0 h, add-one) refl

pub new_none : (ns : List ℕ) → with_new ns [] ≡ ns
unfolding with_new
new_none ns = refl

pub new_rest : (ns vs : List ℕ) (i : ℕ) → length vs ≤ i → ns ≡ with_new ns (drop i vs)
new_rest ns vs i past = sym (ap (with_new ns) (drop_all i vs past) ∙ new_none ns)

pub listing_is : (a b : Listing) → a.numbers ≡ b.numbers → a.bound ≡ b.bound → a ≡ b
listing_is a b e f = λ i. record { numbers = e i; bound = f i }

-- the picked wires from one port to the next
picked_next : (ds : List Bool) (ws : List ℕ) (i : ℕ) → i < length ds → i < length ws
    → picked true (drop i ds) (drop i ws) ≡ picked true (get_or ds i false ∷ drop (i + 1) ds) (get_or ws i 0 ∷ drop (i + 1) ws)
picked_next ds ws i in_ds in_ws = rw (drop-cons ds i false in_ds, drop-cons ws i 0 in_ws, add-one) refl

pub pick_here : (ds : List Bool) (ws picks : List ℕ) (i : ℕ) → i < length ds → i < length ws → get_or ds i false ≡ true
    → (picks ++ get_or ws i 0 ∷ []) ++ picked true (drop (i + 1) ds) (drop (i + 1) ws) ≡ picks ++ picked true (drop i ds) (drop i ws)
pick_here ds ws picks i in_ds in_ws e =
    append_assoc picks (get_or ws i 0 ∷ []) (picked true (drop (i + 1) ds) (drop (i + 1) ws))
    ∙ ap (λ (l : List ℕ). picks ++ l) (sym (picked_next ds ws i in_ds in_ws ∙ picked_here true (get_or ds i false) (drop (i + 1) ds) (get_or ws i 0) (drop (i + 1) ws) e))

pub pick_there : (ds : List Bool) (ws picks : List ℕ) (i : ℕ) → i < length ds → i < length ws → get_or ds i false ≡ false
    → picks ++ picked true (drop (i + 1) ds) (drop (i + 1) ws) ≡ picks ++ picked true (drop i ds) (drop i ws)
pick_there ds ws picks i in_ds in_ws e =
    ap (λ (l : List ℕ). picks ++ l) (sym (picked_next ds ws i in_ds in_ws ∙ picked_there true (get_or ds i false) (drop (i + 1) ds) (get_or ws i 0) (drop (i + 1) ws) e))

pub pick_end : (ds : List Bool) (ws picks : List ℕ) (i : ℕ) → length ws ≤ i → length ws ≡ length ds → picks ++ picked true (drop i ds) (drop i ws) ≡ picks
pick_end ds ws picks i past sized =
    ap (λ (l : List ℕ). picks ++ l) (ap (picked true (drop i ds)) (drop_all i ws past) ∙ picked_none true (drop i ds) [] refl) ∙ append-nil picks

-- the moved nodes from one number to the next
pub moved_next : (f : ℕ → ℕ) (c : Circuit) (ns : List ℕ) (i : ℕ) (x : Node) (copies : List Node) → i < length ns → slice_get c.nodes (get_or ns i 0) ≡ Some x
    → (copies ++ moved f x ∷ []) ++ moved_all f c (drop (i + 1) ns) ≡ copies ++ moved_all f c (drop i ns)
moved_next f c ns i x copies h e =
    append_assoc copies (moved f x ∷ []) (moved_all f c (drop (i + 1) ns))
    ∙ ap (λ (l : List Node). copies ++ l) (sym (opened ∙ ap (λ o. moved_at f o ++ moved_all f c (drop (i + 1) ns)) e))
  where
    opened : moved_all f c (drop i ns) ≡ moved_at f (slice_get c.nodes (get_or ns i 0)) ++ moved_all f c (drop (i + 1) ns)
    opened = rw (drop-cons ns i 0 h, add-one) refl
