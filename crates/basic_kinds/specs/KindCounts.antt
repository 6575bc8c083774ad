-- The kinds by counts: where how often each port has come is c, which port may come next.
use Rattle.std.specs.Prelude.{◌≡◌, ◌⊎◌, ℕ, suc, ◌+◌, ◌<◌, ◌==◌, if◌then◌else◌, List, [], length, slice_index_or}
use Rattle.cmd_tree.specs.Rounds.{counts, Follows, RoundsAt}
use Rattle.basic_kinds.specs.Totals.{total}
use Rattle.basic_kinds.specs.declared.shape.Shape.{Shape}
use Rattle.basic_kinds.specs.declared.kind.Kind.{Kind}
use Rattle.basic_kinds.specs.declared.kind.Kind.TheVariants.{Wire, Iwire, Source, Sink, Fork, C, Merge, Toggle, Dw, Seq}

-- ---- a decision wait: its rows are the ports from 0, its columns those from rows, its outputs those after
-- both

-- the row and the column of the crossing x
abbrev pub row_of : Shape → ℕ → ℕ
row_of s x = (slice_index_or s.cross x (0, 0)).0

abbrev pub col_of : Shape → ℕ → ℕ
col_of s x = (slice_index_or s.cross x (0, 0)).1

-- row i and column j have a crossing
abbrev pub Crosses : Shape → ℕ → ℕ → Type 0
Crosses s i j = (x : ℕ) × (x < length s.cross) × (row_of s x ≡ i) × (col_of s x ≡ j)

-- how often the outputs of row i have come in all, and those of column j
abbrev pub row_outs : Shape → (ℕ → ℕ) → ℕ → ℕ
row_outs s c i = total (length s.cross) (λ x. if row_of s x == i then c (s.rows + s.cols + x) else 0)

abbrev pub col_outs : Shape → (ℕ → ℕ) → ℕ → ℕ
col_outs s c j = total (length s.cross) (λ x. if col_of s x == j then c (s.rows + s.cols + x) else 0)

-- a row is pending where it has come more often than its outputs, and a column likewise
abbrev pub RowPends : Shape → (ℕ → ℕ) → ℕ → Type 0
RowPends s c i = row_outs s c i < c i

abbrev pub ColPends : Shape → (ℕ → ℕ) → ℕ → Type 0
ColPends s c j = col_outs s c j < c (s.rows + j)

-- row p may come: no row is pending, and each pending column crosses it
pub record RowMay (s : Shape) (c : ℕ → ℕ) (p : ℕ) : Type 0 where
  pub row : p < s.rows
  pub free : (i : ℕ) → i < s.rows → c i ≡ row_outs s c i
  pub meets : (j : ℕ) → j < s.cols → ColPends s c j → Crosses s p j

-- and so may a column: no column is pending, and each pending row crosses it
pub record ColMay (s : Shape) (c : ℕ → ℕ) (p : ℕ) : Type 0 where
  pub col : ℕ
  pub port : p ≡ s.rows + col
  pub within : col < s.cols
  pub free : (j : ℕ) → j < s.cols → c (s.rows + j) ≡ col_outs s c j
  pub meets : (i : ℕ) → i < s.rows → RowPends s c i → Crosses s i col

-- the output of a crossing may come: its row and its column are pending
pub record OutMay (s : Shape) (c : ℕ → ℕ) (p : ℕ) : Type 0 where
  pub crossing : ℕ
  pub port : p ≡ s.rows + s.cols + crossing
  pub within : crossing < length s.cross
  pub row : RowPends s c (row_of s crossing)
  pub col : ColPends s c (col_of s crossing)

-- ---- a SEQ of k requests: the requests are the ports from 0, the token is k, the grants are those from k
-- + 1

-- how many grants have come
abbrev pub grants_in : ℕ → (ℕ → ℕ) → ℕ
grants_in k c = total k (λ i. c (k + 1 + i))

-- a grant may come: its request waits for it, and a token is there
pub record GrantMay (k : ℕ) (c : ℕ → ℕ) (p : ℕ) : Type 0 where
  pub request : ℕ
  pub port : p ≡ k + 1 + request
  pub within : request < k
  pub waits : c p < c request
  pub token : grants_in k c < c k

-- ---- all kinds

-- after the counts c the port p may come
abbrev pub KindAt : Kind → (ℕ → ℕ) → ℕ → Type 0
KindAt Wire c p = RoundsAt 1 1 c p
KindAt Iwire c p = ((p ≡ 1) × (c 1 ≡ c 0)) ⊎ ((p ≡ 0) × (c 0 < c 1))
KindAt Source c p = (p ≡ 0) × (c 0 ≡ 0)
KindAt Sink c p = (p ≡ 0) × (c 0 ≡ 0)
KindAt (Fork n) c p = RoundsAt 1 n c p
KindAt (C n) c p = RoundsAt n 1 c p
KindAt (Merge n) c p = ((p < n) × (total n c ≡ c n)) ⊎ ((p ≡ n) × (c n < total n c))
KindAt Toggle c p =
    ((p ≡ 0) × (c 0 ≡ c 1 + c 2)) ⊎ (((p ≡ 1) × (c 1 + c 2 < c 0) × (c 1 ≡ c 2))
    ⊎ ((p ≡ 2) × (c 1 + c 2 < c 0) × (c 1 ≡ suc (c 2))))
KindAt (Dw s) c p = RowMay s c p ⊎ (ColMay s c p ⊎ OutMay s c p)
KindAt (Seq k) c p = ((p < k) × (c p ≡ c (k + 1 + p))) ⊎ (((p ≡ k) × (c k ≡ grants_in k c)) ⊎ GrantMay k c p)

-- each port of t may come after those before it
abbrev pub KindFollows : Kind → List ℕ → Type 0
KindFollows kind t = Follows (λ u p. KindAt kind (counts u) p) [] t
