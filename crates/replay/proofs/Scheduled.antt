-- Lines and numbers of a schedule: each line is the line of one event at most, and each text that of one schedule.
use Rattle.std.proofs.Common.{◌≡◌, ◌≢◌, ◌⊎◌, inl, inr, ℕ, suc, ◌+◌, ◌<◌, ◌≤◌, ◌^◌, Bool, true, false, if◌then◌else◌, List, [], ◌∷◌, ◌++◌, length, take, Option, Some, None, Result, Ok, Err, ◌↔◌, length-append, refl, sym, ap, ◌∙◌, subst, arith, append_assoc}
use Rattle.std.specs.Prelude.{codes, decimal, position, IfOk, IfErr, IfSome, MatchResult}
use Rattle.std.specs.Char.{is_ascii_digit}
use Rattle.std.specs.Str.{bytes_eq, all_ascii_digits}
use Rattle.std.proofs.lemmas.Bool.{false≢true, and_parts}
use Rattle.std.proofs.lemmas.Fmt.{decimal_injective}
use Rattle.std.proofs.Math.Seq.{take-append_seam}
use Rattle.cmd_tree.specs.Limits.{is_name}
use Rattle.text_lines.specs.declared.read.DecimalFault.{DecimalFault}
use Rattle.text_lines.specs.declared.read.DecimalFault.TheVariants.{NotDecimal, TooLarge}
use Rattle.text_lines.specs.Decimals.{value_of, IsDecimal}
use Rattle.text_lines.proofs.Values.{decimal_is, value-decimal, decimal-value}
use Rattle.replay.specs.declared.event.Event.{Event}
use Rattle.replay.specs.declared.event.Event.TheVariants.{Give, Pass, Fire, Unknown}
use Rattle.replay.specs.declared.schedule.ScheduleRefusal.{ScheduleRefusal}
use Rattle.replay.specs.declared.schedule.ScheduleRefusal.TheVariants as told
use Rattle.replay.specs.ScheduleText.{Lacks, text_of, IsGive, IsLineOf, AreLinesOf, IsSchedule, IsFaultyLine, line_told}
use Rattle.replay.specs.Mirror.Schedules.{Reads, given_at, given, IsNumber, AreNumbers, SoFar}

-- ---- texts without a byte

-- a text is cut at one place at most
pub cut_apart : (c : ℕ) (u v a b : List ℕ) → Lacks c u → Lacks c v → u ++ c ∷ a ≡ v ++ c ∷ b → (u ≡ v) × (a ≡ b)
cut_apart c [] [] a b h k e = let same : a ≡ b = cc in (refl, same)
cut_apart c [] (y ∷ v) a b h k e = let s : c ≡ y = cc in absurd (k.0 (sym s))
cut_apart c (x ∷ u) [] a b h k e = let s : x ≡ c = cc in absurd (h.0 s)
cut_apart c (x ∷ u) (y ∷ v) a b h k e =
    let s : x ≡ y = cc in
    let t : u ++ c ∷ a ≡ v ++ c ∷ b = cc in
    let r = cut_apart c u v a b h.1 k.1 t in
    ((λ i. s i ∷ r.0 i), r.1)

pub not_cut : (c : ℕ) (text u a : List ℕ) → Lacks c text → text ≡ u ++ c ∷ a → ⊥
not_cut c [] [] a h e = absurd (cc)
not_cut c [] (y ∷ u) a h e = absurd (cc)
not_cut c (x ∷ text) [] a h e = let s : x ≡ c = cc in h.0 s
not_cut c (x ∷ text) (y ∷ u) a h e = let t : text ≡ u ++ c ∷ a = cc in not_cut c text u a h.1 t

digits_lack : (ds : List ℕ) → all_ascii_digits ds ≡ true → Lacks 32 ds
digits_lack [] h = tt
digits_lack (d ∷ ds) h =
    let p = and_parts (is_ascii_digit d) (all_ascii_digits ds) h in
    ((λ e. false≢true (sym (ap is_ascii_digit e) ∙ p.0)), digits_lack ds p.1)

pub decimal_lacks : (n : ℕ) → n < 2 ^ 64 → Lacks 32 (decimal n)
decimal_lacks n h = digits_lack (decimal n) (decimal_is n h).digits

wide : (n : ℕ) → n < 2 ^ 32 → n < 2 ^ 64
wide n h = omega arith

-- ---- what stands behind a word

pub behind_none : (word text rest : List ℕ) → (take (length word) text ≡ word → ⊥) → text ≡ word ++ rest → ⊥
behind_none word text rest h e = h (ap (take (length word)) e ∙ take-append_seam word rest)

-- ---- a line is that of one event

heads : (a b : ℕ) (xs ys : List ℕ) → a ≢ b → a ∷ xs ≡ b ∷ ys → ⊥
heads a b xs ys ne e = let s : a ≡ b = cc in ne s

one_give : (names : List (List ℕ)) (o p : Option ℕ) (line : List ℕ) → IsGive names o line → IsGive names p line → o ≡ p
one_give names o p line h k =
    let same : codes "give " ++ h.name ≡ codes "give " ++ k.name = sym h.text ∙ k.text in
    let name : h.name ≡ k.name = cc in
    sym h.number ∙ ap (λ n. position (bytes_eq n) names) name ∙ k.number

give_pass : {A : Type 0} (x y : List ℕ) → codes "give " ++ x ≡ codes "pass " ++ y → A
give_pass x y e = absurd (heads 103 112 _ _ (λ z. omega arith) e)

give_fire : {A : Type 0} (x y : List ℕ) → codes "give " ++ x ≡ codes "fire " ++ y → A
give_fire x y e = absurd (heads 103 102 _ _ (λ z. omega arith) e)

pass_fire : {A : Type 0} (x y : List ℕ) → codes "pass " ++ x ≡ codes "fire " ++ y → A
pass_fire x y e = absurd (heads 112 102 _ _ (λ z. omega arith) e)

pub one_event : (names : List (List ℕ)) (e f : Event) (line : List ℕ) → IsLineOf names e line → IsLineOf names f line → e ≡ f
one_event names (Give a) (Give b) line h k =
    let same : Some a.0 ≡ Some b.0 = one_give names (Some a.0) (Some b.0) line h k in
    let is : a.0 ≡ b.0 = cc in
    λ i. Give (record { 0 = is i })
one_event names (Give a) (Pass w) line h k = give_pass _ _ (sym h.text ∙ k.1)
one_event names (Give a) (Fire n l) line h k = give_fire _ _ (sym h.text ∙ k.2)
one_event names (Give a) Unknown line h k = let e : Some a.0 ≡ None = one_give names (Some a.0) None line h k in absurd (cc)
one_event names (Pass w) (Give b) line h k = give_pass _ _ (sym k.text ∙ h.1)
one_event names (Pass w) (Pass v) line h k =
    let same : codes "pass " ++ decimal w ≡ codes "pass " ++ decimal v = sym h.1 ∙ k.1 in
    let text : decimal w ≡ decimal v = cc in
    ap Pass (decimal_injective w v (wide w h.0) (wide v k.0) text)
one_event names (Pass w) (Fire n l) line h k = pass_fire _ _ (sym h.1 ∙ k.2)
one_event names (Pass w) Unknown line h k = give_pass _ _ (sym k.text ∙ h.1)
one_event names (Fire n l) (Give b) line h k = give_fire _ _ (sym k.text ∙ h.2)
one_event names (Fire n l) (Pass v) line h k = pass_fire _ _ (sym k.1 ∙ h.2)
one_event names (Fire n l) (Fire m j) line h k =
    let same : codes "fire " ++ (decimal n ++ 32 ∷ decimal l) ≡ codes "fire " ++ (decimal m ++ 32 ∷ decimal j) = sym h.2 ∙ k.2 in
    let text : decimal n ++ 32 ∷ decimal l ≡ decimal m ++ 32 ∷ decimal j = cc in
    let parts = cut_apart 32 (decimal n) (decimal m) (decimal l) (decimal j) (decimal_lacks n (wide n h.0)) (decimal_lacks m (wide m k.0)) text in
    let first : n ≡ m = decimal_injective n m (wide n h.0) (wide m k.0) parts.0 in
    let second : l ≡ j = decimal_injective l j (wide l h.1) (wide j k.1) parts.1 in
    λ i. Fire (first i) (second i)
one_event names (Fire n l) Unknown line h k = give_fire _ _ (sym k.text ∙ h.2)
one_event names Unknown (Give b) line h k = let e : None ≡ Some b.0 = one_give names None (Some b.0) line h k in absurd (cc)
one_event names Unknown (Pass v) line h k = give_pass _ _ (sym h.text ∙ k.1)
one_event names Unknown (Fire n l) line h k = give_fire _ _ (sym h.text ∙ k.2)
one_event names Unknown Unknown line h k = refl

-- ---- what is read of a line

pub number_from : (bytes : List ℕ) (n : ℕ) → IsDecimal bytes → n ≡ value_of bytes → n < 2 ^ 32 → IsNumber bytes n
number_from bytes n is e h =
    let small : value_of bytes < 2 ^ 64 = omega (arith, e, h) in
    (h, decimal-value bytes is small ∙ ap decimal (sym e))

-- a decimal of a small number has that value
pub number_is : (bytes : List ℕ) (n : ℕ) → IsNumber bytes n → IsDecimal bytes × (value_of bytes ≡ n)
number_is bytes n h = (
  subst IsDecimal (sym h.1) (decimal_is n (wide n h.0)),
  ap value_of h.1 ∙ value-decimal n (wide n h.0),
)

pub no_fault : (bytes : List ℕ) (n : ℕ) (f : DecimalFault) → IsNumber bytes n
    → (◌≡◌ {A = Result ℕ DecimalFault} (Err f) (Err NotDecimal) ↔ (IsDecimal bytes → ⊥))
    → (◌≡◌ {A = Result ℕ DecimalFault} (Err f) (Err TooLarge) ↔ (IsDecimal bytes × (2 ^ 64 ≤ value_of bytes))) → ⊥
no_fault bytes n NotDecimal h refused large = refused.0 refl (number_is bytes n h).0
no_fault bytes n TooLarge h refused large = omega (arith, (large.0 refl).1, (number_is bytes n h).1, h.0)

pub numbers_cut : (bytes first second : List ℕ) (n k : ℕ) → bytes ≡ first ++ 32 ∷ second → Lacks 32 first → AreNumbers bytes n k
    → IsNumber first n × IsNumber second k
numbers_cut bytes first second n k e lacks h =
    let parts = cut_apart 32 first (decimal n) second (decimal k) lacks (decimal_lacks n (wide n h.0)) (sym e ∙ h.2) in
    ((h.0, parts.0), (h.1, parts.1))

pub reads_give : (names : List (List ℕ)) (name : List ℕ) → Reads names (codes "give " ++ name) (given names name)
reads_give names name = by (is_name name) refl
  where
    event : (o : Option ℕ) → position (bytes_eq name) names ≡ o → is_name name ≡ true → IsLineOf names (given_at o) (codes "give " ++ name)
    event None e t = record { name = name; formed = t; text = refl; number = e }
    event (Some a) e t = record { name = name; formed = t; text = refl; number = e }

    unnamed : is_name name ≡ false → (o : Option ℕ) → IsGive names o (codes "give " ++ name) → ⊥
    unnamed f o k =
        let same : codes "give " ++ name ≡ codes "give " ++ k.name = k.text in
        let text : name ≡ k.name = cc in
        false≢true (sym f ∙ ap is_name text ∙ k.formed)

    at : is_name name ≡ false → (e : Event) → IsLineOf names e (codes "give " ++ name) → ⊥
    at f (Give a) k = unnamed f (Some a.0) k
    at f (Pass w) k = give_pass _ _ k.1
    at f (Fire n l) k = give_fire _ _ k.2
    at f Unknown k = unnamed f None k

    by : (b : Bool) → is_name name ≡ b → Reads names (codes "give " ++ name) (if b then Some (given_at (position (bytes_eq name) names)) else None)
    by true t = record {
      sound = λ e is.
          let same : given_at (position (bytes_eq name) names) ≡ e = cc in
          subst (λ f. IsLineOf names f (codes "give " ++ name)) same (event (position (bytes_eq name) names) refl t);
      whole = λ is e. absurd (cc);
    }
    by false f = record { sound = λ e is. absurd (cc); whole = λ is. at f }

-- ---- the lines so far

lines_end : (names : List (List ℕ)) (es : List Event) (ls : List (List ℕ)) (e : Event) (l : List ℕ) → AreLinesOf names es ls → Lacks 10 l → IsLineOf names e l
    → AreLinesOf names (es ++ e ∷ []) (ls ++ l ∷ [])
lines_end names [] [] e l h lacks is = (lacks, is, tt)
lines_end names [] (m ∷ ls) e l h lacks is = absurd h
lines_end names (d ∷ es) [] e l h lacks is = absurd h
lines_end names (d ∷ es) (m ∷ ls) e l h lacks is = (h.0, h.1, lines_end names es ls e l h.2 lacks is)

text_end : (ls : List (List ℕ)) (l more : List ℕ) → text_of ls ++ (l ++ 10 ∷ more) ≡ text_of (ls ++ l ∷ []) ++ more
text_end [] l more = sym (append_assoc l (10 ∷ []) more)
text_end (m ∷ ls) l more = append_assoc m (10 ∷ text_of ls) (l ++ 10 ∷ more) ∙ ap (λ t. m ++ 10 ∷ t) (text_end ls l more)
    ∙ sym (append_assoc m (10 ∷ text_of (ls ++ l ∷ [])) more)

many_end : (ls : List (List ℕ)) (l : List ℕ) → length (ls ++ l ∷ []) ≡ length ls + 1
many_end [] l = refl
many_end (m ∷ ls) l = ap suc (many_end ls l) ∙ omega arith

pub so_far_next : (names : List (List ℕ)) (bytes : List ℕ) (es : List Event) (rest : List ℕ) (n : ℕ) (e : Event) (l more : List ℕ)
    → SoFar names bytes es rest n → rest ≡ l ++ 10 ∷ more → Lacks 10 l → IsLineOf names e l → SoFar names bytes (es ++ e ∷ []) more (n + 1)
so_far_next names bytes es rest n e l more s cut lacks is = record {
  lines = s.lines ++ l ∷ [];
  of = lines_end names es s.lines e l s.of lacks is;
  text = s.text ∙ ap (λ t. text_of s.lines ++ t) cut ∙ text_end s.lines l more;
  number = omega (arith, s.number, many_end s.lines l);
}

lines_long : (ls : List (List ℕ)) → length ls ≤ length (text_of ls)
lines_long [] = omega arith
lines_long (l ∷ ls) = omega (arith, lines_long ls, length-append l (10 ∷ text_of ls))

-- there are no more lines than bytes
pub so_far_few : (names : List (List ℕ)) (bytes : List ℕ) (es : List Event) (rest : List ℕ) (n : ℕ) → SoFar names bytes es rest n
    → n ≤ length bytes + 1
so_far_few names bytes es rest n s =
    omega (arith, s.number, lines_long s.lines, length-append (text_of s.lines) rest, ap length s.text)

-- ---- a text is that of one schedule, or has one first faulty line

-- the line with which this rest begins is that of no event, or is open
record IsBad (names : List (List ℕ)) (line tail : List ℕ) : Type 0 where
  lacks : Lacks 10 line
  bad : ((rest : List ℕ) × (tail ≡ line ++ 10 ∷ rest) × ((e : Event) → IsLineOf names e line → ⊥)) ⊎ ((tail ≡ line) × (line ≢ []))

bad_named : (names : List (List ℕ)) (line tail : List ℕ) (e : Event) (l t : List ℕ) → IsBad names line tail → tail ≡ l ++ 10 ∷ t
    → Lacks 10 l → IsLineOf names e l → ⊥
bad_named names line tail e l t b is lacks named = elim b.bad [
  | inl (rest, cut, none) ↦
      let same : line ≡ l = (cut_apart 10 line l rest t b.lacks lacks (sym cut ∙ is)).0 in
      none e (subst (IsLineOf names e) (sym same) named)
  | inr (open_line, some) ↦ not_cut 10 line l t b.lacks (sym open_line ∙ is)
]

bad_some : (names : List (List ℕ)) (line tail : List ℕ) → IsBad names line tail → tail ≡ [] → ⊥
bad_some names line tail b none = elim b.bad [
  | inl (rest, cut, no_event) ↦ not_cut 10 [] line rest tt (sym none ∙ cut)
  | inr (open_line, some) ↦ some (sym open_line ∙ none)
]

past : (k : List ℕ) (ks : List (List ℕ)) (a : List ℕ) → text_of (k ∷ ks) ++ a ≡ k ++ 10 ∷ (text_of ks ++ a)
past k ks a = append_assoc k (10 ∷ text_of ks) a

pub one_schedule : (names : List (List ℕ)) (es fs : List Event) (ks ls : List (List ℕ)) → AreLinesOf names es ks → AreLinesOf names fs ls
    → text_of ks ≡ text_of ls → es ≡ fs
one_schedule names [] [] ks ls h i e = refl
one_schedule names [] (f ∷ fs) [] [] h i e = absurd i
one_schedule names [] (f ∷ fs) [] (l ∷ ls) h i e = absurd (not_cut 10 [] l (text_of ls) tt e)
one_schedule names [] (f ∷ fs) (k ∷ ks) ls h i e = absurd h
one_schedule names (d ∷ es) [] [] ls h i e = absurd h
one_schedule names (d ∷ es) [] (k ∷ ks) [] h i e = absurd (not_cut 10 [] k (text_of ks) tt (sym e))
one_schedule names (d ∷ es) [] (k ∷ ks) (l ∷ ls) h i e = absurd i
one_schedule names (d ∷ es) (f ∷ fs) [] ls h i e = absurd h
one_schedule names (d ∷ es) (f ∷ fs) (k ∷ ks) [] h i e = absurd i
one_schedule names (d ∷ es) (f ∷ fs) (k ∷ ks) (l ∷ ls) h i e =
    let parts = cut_apart 10 k l (text_of ks) (text_of ls) h.0 i.0 e in
    let first : d ≡ f = one_event names d f l (subst (IsLineOf names d) parts.0 h.1) i.1 in
    let rest : es ≡ fs = one_schedule names es fs ks ls h.2 i.2 parts.1 in
    λ j. first j ∷ rest j

not_both : (names : List (List ℕ)) (es fs : List Event) (ks ls : List (List ℕ)) (line tail : List ℕ) → AreLinesOf names es ks
    → IsBad names line tail → AreLinesOf names fs ls → text_of ks ++ tail ≡ text_of ls → ⊥
not_both names [] [] [] [] line tail h b i e = bad_some names line tail b e
not_both names [] [] [] (l ∷ ls) line tail h b i e = i
not_both names [] (f ∷ fs) [] [] line tail h b i e = i
not_both names [] (f ∷ fs) [] (l ∷ ls) line tail h b i e = bad_named names line tail f l (text_of ls) b e i.0 i.1
not_both names [] fs (k ∷ ks) ls line tail h b i e = h
not_both names (d ∷ es) fs [] ls line tail h b i e = h
not_both names (d ∷ es) [] (k ∷ ks) [] line tail h b i e = not_cut 10 [] k (text_of ks ++ tail) tt (sym e ∙ past k ks tail)
not_both names (d ∷ es) [] (k ∷ ks) (l ∷ ls) line tail h b i e = i
not_both names (d ∷ es) (f ∷ fs) (k ∷ ks) [] line tail h b i e = i
not_both names (d ∷ es) (f ∷ fs) (k ∷ ks) (l ∷ ls) line tail h b i e =
    not_both names es fs ks ls line tail h.2 b i.2 (cut_apart 10 k l (text_of ks ++ tail) (text_of ls) h.0 i.0 (sym (past k ks tail) ∙ e)).1

as_long : (names : List (List ℕ)) (es fs : List Event) (ks ls : List (List ℕ)) (line tail other left : List ℕ) → AreLinesOf names es ks
    → IsBad names line tail → AreLinesOf names fs ls → IsBad names other left → text_of ks ++ tail ≡ text_of ls ++ left → length ks ≡ length ls
as_long names [] [] [] [] line tail other left h b i c e = refl
as_long names [] [] [] (l ∷ ls) line tail other left h b i c e = absurd i
as_long names [] (f ∷ fs) [] [] line tail other left h b i c e = absurd i
as_long names [] (f ∷ fs) [] (l ∷ ls) line tail other left h b i c e =
    absurd (bad_named names line tail f l (text_of ls ++ left) b (e ∙ past l ls left) i.0 i.1)
as_long names [] fs (k ∷ ks) ls line tail other left h b i c e = absurd h
as_long names (d ∷ es) fs [] ls line tail other left h b i c e = absurd h
as_long names (d ∷ es) [] (k ∷ ks) [] line tail other left h b i c e =
    absurd (bad_named names other left d k (text_of ks ++ tail) c (sym e ∙ past k ks tail) h.0 h.1)
as_long names (d ∷ es) [] (k ∷ ks) (l ∷ ls) line tail other left h b i c e = absurd i
as_long names (d ∷ es) (f ∷ fs) (k ∷ ks) [] line tail other left h b i c e = absurd i
as_long names (d ∷ es) (f ∷ fs) (k ∷ ks) (l ∷ ls) line tail other left h b i c e =
    ap suc (as_long names es fs ks ls line tail other left h.2 b i.2 c
    (cut_apart 10 k l (text_of ks ++ tail) (text_of ls ++ left) h.0 i.0 (sym (past k ks tail) ∙ e ∙ past l ls left)).1)

-- what is behind the lines before a faulty line
record Tail (names bytes' : List (List ℕ)) (bytes line : List ℕ) : Type 0 where
  tail : List ℕ
  is_bad : IsBad names line tail
  text : bytes ≡ text_of bytes' ++ tail

tail_of : (names : List (List ℕ)) (bytes : List ℕ) (n : ℕ) → (f : IsFaultyLine names bytes n) → Tail names f.before bytes f.line
tail_of names bytes n f = elim f.faulty [
  | inl (rest, text, none) ↦ record {
    tail = f.line ++ 10 ∷ rest;
    is_bad = record { lacks = f.lacks; bad = inl (rest, refl, none) };
    text = text;
  }
  | inr (text, some) ↦ record { tail = f.line; is_bad = record { lacks = f.lacks; bad = inr (refl, some) }; text = text }
]

pub same_schedule : (names : List (List ℕ)) (bytes : List ℕ) (es fs : List Event) → IsSchedule names es bytes → IsSchedule names fs bytes → es ≡ fs
same_schedule names bytes es fs h k = one_schedule names es fs h.lines k.lines h.of k.of (sym h.text ∙ k.text)

pub no_schedule : (names : List (List ℕ)) (bytes : List ℕ) (es : List Event) (n : ℕ) → IsSchedule names es bytes → IsFaultyLine names bytes n → ⊥
no_schedule names bytes es n h f =
    let t = tail_of names bytes n f in
    not_both names f.events es f.before h.lines f.line t.tail f.of t.is_bad h.of (sym t.text ∙ h.text)

pub same_line : (names : List (List ℕ)) (bytes : List ℕ) (n m : ℕ) → IsFaultyLine names bytes n → IsFaultyLine names bytes m → n ≡ m
same_line names bytes n m f g =
    let t = tail_of names bytes n f in
    let u = tail_of names bytes m g in
    omega (
      arith,
      f.number,
      g.number,
      as_long names f.events g.events f.before g.before f.line t.tail g.line u.tail f.of t.is_bad g.of u.is_bad (sym t.text ∙ u.text),
    )

-- what a reader answers that tells schedules and faulty lines alone
module _ {V : Type 0} (items : V → List Event) (names : List (List ℕ)) (bytes : List ℕ) where
  pub text_read : (r : Result V ScheduleRefusal) → IfOk r (λ v. IsSchedule names (items v) bytes)
      → IfErr r (λ e. IfSome (line_told e) (IsFaultyLine names bytes)) → (es : List Event) → IsSchedule names es bytes
      → MatchResult r (λ v. items v ≡ es) (λ e. e ≡ told.NoMemory)
  text_read (Ok v) ok err es s = same_schedule names bytes (items v) es ok s
  text_read (Err (told.BadLine n)) ok err es s = absurd (no_schedule names bytes es n s err)
  text_read (Err told.NoMemory) ok err es s = refl

  pub line_refused : (r : Result V ScheduleRefusal) → IfOk r (λ v. IsSchedule names (items v) bytes)
      → IfErr r (λ e. IfSome (line_told e) (IsFaultyLine names bytes)) → (n : ℕ) → IsFaultyLine names bytes n
      → MatchResult r (λ v. ⊥) (λ e. IfSome (line_told e) (λ m. m ≡ n))
  line_refused (Ok v) ok err n f = no_schedule names bytes (items v) n ok f
  line_refused (Err (told.BadLine m)) ok err n f = same_line names bytes m n err f
  line_refused (Err told.NoMemory) ok err n f = tt
