-- What the tokens of bytes are: gaps and tokens in order, each as long as it can be.
use Rattle.std.specs.Prelude.{◌≡◌, ℕ, ◌+◌, ◌<◌, Bool, false, ◌||◌, nat_eq, IsTrue, List, [], ◌∷◌, ◌++◌, map, length, Option, Some, None}
use Rattle.std.specs.List.{AllByRecursion, list_any}
use Rattle.std.specs.Str.{bytes_eq}
use Rattle.cmd_tree.specs.declared.limits.TheConstants.{MAX_NAME_BYTES}
use Rattle.cmd_tree.specs.Limits.{begins_with_letter}
use Rattle.cmd_text.specs.Token.{Token, Define, Dot, Semi, Bar, Par, Open, Close, LeftSq, RightSq, Star, Ask, Bang, Comma, Slash, End}
use Rattle.cmd_text.specs.File.{Placed}
use Rattle.cmd_text.specs.Text.{IsWord}
use Rattle.cmd_text.specs.Fault.{Fault, BadByte, BadToken, NameTooLong}
use Rattle.cmd_text.specs.Scan.{is_blank, is_comment, is_digit, bytes_of}

abbrev pub signs : List (List ℕ)
signs = map bytes_of (Define ∷ Dot ∷ Semi ∷ Bar ∷ Par ∷ Open ∷ Close ∷ LeftSq ∷ RightSq ∷ Star ∷ Ask ∷ Bang ∷ Comma ∷ Slash ∷ [])

-- a sign, or a letter with letters, digits and `_` behind it
abbrev pub is_spelled : List ℕ → Bool
is_spelled w = list_any (bytes_eq w) signs || begins_with_letter w

-- `#` and what may stand in a comment
pub record IsComment (c : List ℕ) : Type 0 where
  pub inside : List ℕ
  pub marked : c ≡ 35 ∷ inside
  pub plain : AllByRecursion (λ b. IsTrue (is_comment b)) inside

-- blanks, and comments up to the ends of their lines
pub data IsGap : List ℕ → Type 0 where
  nothing : IsGap []
  blank : (b : ℕ) (g : List ℕ) → IsTrue (is_blank b) → IsGap g → IsGap (b ∷ g)
  comment : (c g : List ℕ) → IsComment c → IsGap g → IsGap (c ++ 10 ∷ g)

-- a gap at the end of the text, where the last comment needs no end of its line
pub data IsLastGap : List ℕ → Type 0 where
  plain : (g : List ℕ) → IsGap g → IsLastGap g
  open_comment : (g c : List ℕ) → IsGap g → IsComment c → IsLastGap (g ++ c)

-- w is spelled, and what is longer is not, up to the end of the text
pub record IsLongest (w rest : List ℕ) : Type 0 where
  pub spelled : IsTrue (is_spelled w)
  pub longest : (x : ℕ) (v u : List ℕ) → rest ≡ x ∷ v ++ u → is_spelled (w ++ x ∷ v) ≡ false

-- nothing that is spelled begins here
abbrev pub BeginsNothing : List ℕ → Type 0
BeginsNothing bs = (v u : List ℕ) → bs ≡ v ++ u → is_spelled v ≡ false

-- a byte that would go on with a token
abbrev pub is_stump : ℕ → Bool
is_stump b = nat_eq b 58 || is_digit b || nat_eq b 95

-- the token t is spelled w
pub record Spells (w : List ℕ) (t : Token) : Type 0 where
  pub bytes : bytes_of t ≡ w
  pub word : IsWord t

-- Why no token goes on behind a gap, at the place p: a byte begins nothing, a name is too long, or a byte may not stand
-- in a comment.
pub data IsStop (p : ℕ) : List ℕ → Fault → Type 0 where
  stump : (b : ℕ) (rest : List ℕ) → IsTrue (is_stump b) → BeginsNothing (b ∷ rest) → IsStop p (b ∷ rest) (BadToken p)
  stray : (b : ℕ) (rest : List ℕ) → is_stump b ≡ false → is_blank b ≡ false → nat_eq b 35 ≡ false → BeginsNothing (b ∷ rest) → IsStop p (b ∷ rest) (BadByte p)
  long : (w rest : List ℕ) → IsLongest w rest → IsTrue (begins_with_letter w) → MAX_NAME_BYTES < length w → IsStop p (w ++ rest) (NameTooLong p)
  comment : (c : List ℕ) (b : ℕ) (rest : List ℕ) → IsComment c → is_comment b ≡ false → nat_eq b 10 ≡ false → IsStop p (c ++ b ∷ rest) (BadByte (p + length c))

-- The bytes from the place p on are these tokens: each behind a gap, and the end of the text behind the last gap; or they
-- stop with a fault.
pub data AreTokens : ℕ → List ℕ → List Placed → Option Fault → Type 0 where
  ends : (p : ℕ) (g : List ℕ) → IsLastGap g → AreTokens p g (record { tok = End; at = p + length g } ∷ []) None
  stops : (p : ℕ) (g rest : List ℕ) (f : Fault) → IsGap g → IsStop (p + length g) rest f → AreTokens p (g ++ rest) [] (Some f)
  goes_on : (p : ℕ) (g w rest : List ℕ) (t : Token) (xs : List Placed) (f : Option Fault) → IsGap g → IsLongest w rest → Spells w t
      → AreTokens (p + length g + length w) rest xs f → AreTokens p (g ++ (w ++ rest)) (record { tok = t; at = p + length g } ∷ xs) f
