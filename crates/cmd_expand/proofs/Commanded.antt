-- The processes of `main` with their symbols numbered are a command.
use Rattle.std.proofs.Common.{◌≡◌, ◌≢◌, ℕ, zero, suc, ◌+◌, ◌≤◌, ◌<◌, Bool, true, false, true≢false, cond, ◌||◌, List, [], ◌∷◌, ◌++◌, map, length, length-append, get_or, Option, Some, None, Result, Ok, Err, refl, sym, ap, ◌∙◌, subst, arith, eq-eqb}
use Rattle.std.specs.Prelude.{IsTrue, is_some, nat_eq, nat_lt, if◌then◌else◌}
use Rattle.std.specs.List.{AllByRecursion, IsDistinct, list_any}
use Rattle.std.specs.Str.{bytes_eq}
use Rattle.std.specs.Cmp.Lexicographic.{nat_list_eq_equiv}
use Rattle.std.proofs.lemmas.Bool.{ltb-false}
use Rattle.std.proofs.lemmas.List.{map-append, length-map}
use Rattle.cmd_tree.specs.declared.tree.Mark.{Mark}
use Rattle.cmd_tree.specs.declared.tree.Proc.{Proc}
use Rattle.cmd_tree.specs.declared.limits.TheConstants.{MAX_SYMBOLS, MAX_PROCESSES, MAX_PLACES}
use Rattle.cmd_tree.specs.Limits.{marks_of_proc, marks_of_all, places_of_all, IsProc, IsCommand, IsNumbered, brackets_of_proc, is_name}
use Rattle.cmd_text.specs.declared.file.Sentence.{Sentence}
use Rattle.cmd_text.specs.declared.file.Factor.{Factor}
use Rattle.cmd_text.specs.declared.file.Factor.TheVariants.{Own, Named}
use Rattle.cmd_text.specs.declared.file.Rename.{Rename}
use Rattle.cmd_text.specs.File.{Use}
use Rattle.cmd_rename.specs.Renaming.{ren_proc, ren_all}
use Rattle.cmd_rename.specs.Symbols.{symbols_in, symbols_of, rank, renumbered}
use Rattle.cmd_rename.proofs.Laws.{proc_kept, body_kept, proc_brackets, proc_symbols, ren_length, ren_places}
use Rattle.cmd_rename.proofs.SymbolNames.{names_distinct, names_formed}
use Rattle.cmd_rename.proofs.Numbering.{renumbered_numbered, symbols_distinct, all_each}
use Rattle.cmd_expand.specs.Names.{number, with_name, with_pairs, with_factor, with_factors, with_sentences, all_names, IsIn, AreIn, IsFactorIn}
use Rattle.cmd_expand.specs.Pairs.{pair_of, renamed, first_fault, Refused, TooManySymbols, TooManyProcs, TooManyPlaces, DefinedTwice}
use Rattle.cmd_expand.specs.Expansion.{Known, found, name_of, followed, renamed_by, limited, within, and_then, defined_by, use_of, factor, weave, body, definition, last_of}
use Rattle.cmd_rename.specs.Symbols.{names_in}
use Rattle.cmd_expand.proofs.Found.{place, place_is}
use Rattle.cmd_expand.proofs.FileRead.{GoodProc, AreNames, GoodFactor, GoodSentence, GoodFile, distinct_with}

-- ---- all names of a file
record Kept (base : ℕ) (ns : List (List ℕ)) : Type 0 where
  formed : AllByRecursion (λ n. IsTrue (is_name n)) ns
  distinct : IsDistinct bytes_eq ns
  long : base ≤ length ns

formed_last : (ns : List (List ℕ)) (n : List ℕ) → AllByRecursion (λ m. IsTrue (is_name m)) ns → IsTrue (is_name n) → AllByRecursion (λ m. IsTrue (is_name m)) (ns ++ n ∷ [])
formed_last [] n h k = (k, tt)
formed_last (m ∷ ns) n h k = (h.0, formed_last ns n h.1 k)

formed_by : (ns : List (List ℕ)) (n : List ℕ) (b : Bool) → AllByRecursion (λ m. IsTrue (is_name m)) ns → IsTrue (is_name n) → AllByRecursion (λ m. IsTrue (is_name m)) (if b then ns else ns ++ n ∷ [])
formed_by ns n true h k = h
formed_by ns n false h k = formed_last ns n h k

long_by : (base : ℕ) (ns : List (List ℕ)) (n : List ℕ) (b : Bool) → base ≤ length ns → base ≤ length (if b then ns else ns ++ n ∷ [])
long_by base ns n true h = h
long_by base ns n false h = omega (arith, h, length-append ns (n ∷ []))

kept_with : (base : ℕ) (ns : List (List ℕ)) (n : List ℕ) → IsTrue (is_name n) → Kept base ns → Kept base (with_name ns n)
kept_with base ns n k h = record {
  formed = formed_by ns n (list_any (bytes_eq n) ns) h.formed k;
  distinct = distinct_with ns n h.distinct;
  long = long_by base ns n (list_any (bytes_eq n) ns) h.long;
}

kept_pairs : (base : ℕ) (rs : List Rename) (ns : List (List ℕ)) → AllByRecursion AreNames rs → Kept base ns → Kept base (with_pairs ns rs)
kept_pairs base [] ns a h = h
kept_pairs base (r ∷ rs) ns a h = kept_pairs base rs (with_name (with_name ns r.fresh) r.was) a.1 (kept_with base (with_name ns r.fresh) r.was a.0.1 (kept_with base ns r.fresh a.0.0 h))

kept_factor : (base n : ℕ) (f : Factor) (ns : List (List ℕ)) → GoodFactor n f → Kept base ns → Kept base (with_factor ns f)
kept_factor base n (Own p) ns g h = h
kept_factor base n (Named u) ns g h = kept_pairs base u.renames ns g h

kept_factors : (base n : ℕ) (fs : List Factor) (ns : List (List ℕ)) → AllByRecursion (GoodFactor n) fs → Kept base ns → Kept base (with_factors ns fs)
kept_factors base n [] ns g h = h
kept_factors base n (f ∷ fs) ns g h = kept_factors base n fs (with_factor ns f) g.1 (kept_factor base n f ns g.0 h)

kept_sentences : (base n : ℕ) (ss : List Sentence) (ns : List (List ℕ)) → AllByRecursion (GoodSentence n) ss → Kept base ns → Kept base (with_sentences ns ss)
kept_sentences base n [] ns g h = h
kept_sentences base n (s ∷ ss) ns g h = kept_sentences base n ss (with_factors ns s.factors) g.1 (kept_factors base n s.factors ns g.0.1 h)

kept_all : (names : List (List ℕ)) (ss : List Sentence) → GoodFile names ss → Kept (length names) (all_names names ss)
kept_all names ss g = kept_sentences (length names) (length names) ss names g.sentences (record { formed = g.formed; distinct = g.distinct; long = omega arith })

-- ---- processes whose symbols are below n
all_mapped : (P Q : ℕ → Type 0) (f : ℕ → ℕ) (xs : List ℕ) → ((a : ℕ) → P a → Q (f a)) → AllByRecursion P xs → AllByRecursion Q (map f xs)
all_mapped P Q f [] g h = tt
all_mapped P Q f (x ∷ xs) g h = (g x h.0, all_mapped P Q f xs g h.1)

good_renamed : (n : ℕ) (f : ℕ → ℕ) (p : Proc) → ((a : ℕ) → a < n → f a < n) → GoodProc n p → GoodProc n (ren_proc f p)
good_renamed n f p g h = record {
  shaped = proc_kept f p h.shaped;
  bodied = body_kept f p h.bodied;
  brackets = subst (λ k. k ≤ 64) (sym (proc_brackets f p)) h.brackets;
  symbols = subst (λ (xs : List ℕ). AllByRecursion (λ a. a < n) xs) (sym (proc_symbols f p)) (all_mapped (λ a. a < n) (λ a. a < n) f (symbols_in (marks_of_proc p)) g h.symbols);
}

-- some processes, each of them good
record Sound (n : ℕ) (ps : List Proc) : Type 0 where
  some : 0 < length ps
  good : AllByRecursion (GoodProc n) ps

all_renamed : (n : ℕ) (f : ℕ → ℕ) (ps : List Proc) → ((a : ℕ) → a < n → f a < n) → AllByRecursion (GoodProc n) ps → AllByRecursion (GoodProc n) (ren_all f ps)
all_renamed n f [] g h = tt
all_renamed n f (p ∷ ps) g h = (good_renamed n f p g h.0, all_renamed n f ps g h.1)

sound_renamed : (n : ℕ) (f : ℕ → ℕ) (ps : List Proc) → ((a : ℕ) → a < n → f a < n) → Sound n ps → Sound n (ren_all f ps)
sound_renamed n f ps g h = record { some = omega (arith, h.some, ren_length f ps); good = all_renamed n f ps g h.good }

place_below : (ms : List (List ℕ)) (n : List ℕ) → list_any (bytes_eq n) ms ≡ true → place n ms < length ms
place_below [] n h = absurd (cc)
place_below (m ∷ ms) n h = by (bytes_eq n m) h (λ k. place_below ms n k)
  where
    by : (b : Bool) → (b || list_any (bytes_eq n) ms) ≡ true → (list_any (bytes_eq n) ms ≡ true → place n ms < length ms) → cond b 0 (1 + place n ms) < length (m ∷ ms)
    by true k f = omega arith
    by false k f = omega (arith, f k)

number_below : (ms : List (List ℕ)) (n : List ℕ) → IsIn ms n → number ms n < length ms
number_below ms n h = omega (arith, place_below ms n h, place_is n ms)

renamed_below : (all : List (List ℕ)) (rs : List Rename) → AreIn all rs → (a : ℕ) → a < length all → renamed (map (pair_of all) rs) a < length all
renamed_below all [] h a l = l
renamed_below all (r ∷ rs) h a l = by (nat_eq a (number all r.was)) (renamed_below all rs h.1 a l)
  where
    by : (b : Bool) → renamed (map (pair_of all) rs) a < length all → (if b then number all r.fresh else renamed (map (pair_of all) rs) a) < length all
    by true k = number_below all r.fresh h.0.0
    by false k = k

-- ---- what a file means is sound
all_joined : {A : Type 0} → (P : A → Type 0) (xs ys : List A) → AllByRecursion P xs → AllByRecursion P ys → AllByRecursion P (xs ++ ys)
all_joined P [] ys h k = k
all_joined P (x ∷ xs) ys h k = (h.0, all_joined P xs ys h.1 k)

same_ok : (ps qs : List Proc) → ◌≡◌ {A = Result (List Proc) Refused} (Ok ps) (Ok qs) → ps ≡ qs
same_ok ps qs e = cc

not_ok : {P : Type 0} → (r : Refused) (qs : List Proc) → ◌≡◌ {A = Result (List Proc) Refused} (Err r) (Ok qs) → P
not_ok r qs e = absurd (cc)

record Few (ps : List Proc) : Type 0 where
  symbols : length (symbols_of ps) ≤ MAX_SYMBOLS
  procs : length ps ≤ MAX_PROCESSES
  places : places_of_all ps ≤ MAX_PLACES

abbrev IsGoodKnown : ℕ → Known → Type 0
IsGoodKnown n k = Sound n k.procs

module _ (all : List (List ℕ)) (file : List Sentence) where
  found_sound : (known : List Known) (n : List ℕ) (ps : List Proc) → AllByRecursion (IsGoodKnown (length all)) known → found known n ≡ Some ps → Sound (length all) ps
  found_sound [] n ps h e = absurd (cc)
  found_sound (k ∷ known) n ps h e = by (bytes_eq n k.name) e (λ d. found_sound known n ps h.1 d)
    where
      same_some : (qs rs : List Proc) → ◌≡◌ {A = Option (List Proc)} (Some qs) (Some rs) → qs ≡ rs
      same_some qs rs d = cc

      by : (b : Bool) → (if b then Some k.procs else found known n) ≡ Some ps → (found known n ≡ Some ps → Sound (length all) ps) → Sound (length all) ps
      by true d f = subst (Sound (length all)) (same_some k.procs ps d) h.0
      by false d f = f d

  fault_sound : (u : Use) (qs ps : List Proc) (o : Option Refused) → AreIn all u.renames → Sound (length all) qs → renamed_by (map (pair_of all) u.renames) qs o ≡ Ok ps → Sound (length all) ps
  fault_sound u qs ps None a h e = subst (Sound (length all)) (same_ok (ren_all (renamed (map (pair_of all) u.renames)) qs) ps e) (sound_renamed (length all) (renamed (map (pair_of all) u.renames)) qs (renamed_below all u.renames a) h)
  fault_sound u qs ps (Some r) a h e = not_ok r ps e

  use_sound : (u : Use) (ps : List Proc) (o : Option (List Proc)) → AreIn all u.renames → ((qs : List Proc) → o ≡ Some qs → Sound (length all) qs) → use_of all file u o ≡ Ok ps → Sound (length all) ps
  use_sound u ps None a f e = not_ok _ ps e
  use_sound u ps (Some qs) a f e = fault_sound u qs ps (first_fault (symbols_of qs) (map (pair_of all) u.renames)) a (f qs refl) e

  good_more : (n : ℕ) (p : Proc) → n ≤ length all → GoodProc n p → GoodProc (length all) p
  good_more n p l h = record { shaped = h.shaped; bodied = h.bodied; brackets = h.brackets; symbols = more (symbols_in (marks_of_proc p)) h.symbols }
    where
      more : (xs : List ℕ) → AllByRecursion (λ a. a < n) xs → AllByRecursion (λ a. a < length all) xs
      more [] k = tt
      more (x ∷ xs) k = (omega (arith, k.0, l), more xs k.1)

  factor_sound : (n : ℕ) (known : List Known) (f : Factor) (ps : List Proc) → n ≤ length all → AllByRecursion (IsGoodKnown (length all)) known → GoodFactor n f → IsFactorIn all f → factor all file known f ≡ Ok ps → Sound (length all) ps
  factor_sound n known (Own p) ps l h g a e = subst (Sound (length all)) (same_ok (p ∷ []) ps e) (record { some = omega arith; good = (good_more n p l g, tt) })
  factor_sound n known (Named u) ps l h g a e = use_sound u ps (found known u.name) a (λ qs d. found_sound known u.name qs h d) e

  weave_by : (ps : List Proc) (x y : Result (List Proc) Refused) → ((qs : List Proc) → x ≡ Ok qs → Sound (length all) qs) → ((rs : List Proc) → y ≡ Ok rs → AllByRecursion (GoodProc (length all)) rs) → followed x y ≡ Ok ps → Sound (length all) ps
  weave_by ps (Err r) y f g e = not_ok r ps e
  weave_by ps (Ok qs) (Err r) f g e = not_ok r ps e
  weave_by ps (Ok qs) (Ok rs) f g e = let h = f qs refl in subst (Sound (length all)) (same_ok (qs ++ rs) ps e) (record { some = omega (arith, h.some, length-append qs rs); good = all_joined (GoodProc (length all)) qs rs h.good (g rs refl) })

  weave_good : (n : ℕ) (known : List Known) (fs : List Factor) (ps : List Proc) → n ≤ length all → AllByRecursion (IsGoodKnown (length all)) known → AllByRecursion (GoodFactor n) fs → AllByRecursion (IsFactorIn all) fs → weave all file known fs ≡ Ok ps → AllByRecursion (GoodProc (length all)) ps
  weave_good n known [] ps l h g a e = subst (λ (qs : List Proc). AllByRecursion (GoodProc (length all)) qs) (same_ok [] ps e) tt
  weave_good n known (f ∷ fs) ps l h g a e =
      (weave_by ps (factor all file known f) (weave all file known fs) (λ qs d. factor_sound n known f qs l h g.0 a.0 d) (λ rs d. weave_good n known fs rs l h g.1 a.1 d) e).good

  weave_sound : (n : ℕ) (known : List Known) (fs : List Factor) (ps : List Proc) → n ≤ length all → AllByRecursion (IsGoodKnown (length all)) known → 0 < length fs → AllByRecursion (GoodFactor n) fs → AllByRecursion (IsFactorIn all) fs → weave all file known fs ≡ Ok ps → Sound (length all) ps
  weave_sound n known [] ps l h s g a e = absurd (omega (arith, s))
  weave_sound n known (f ∷ fs) ps l h s g a e =
      weave_by ps (factor all file known f) (weave all file known fs) (λ qs d. factor_sound n known f qs l h g.0 a.0 d) (λ rs d. weave_good n known fs rs l h g.1 a.1 d) e

  few_by : (qs ps : List Proc) (a b c : Bool) → nat_lt MAX_SYMBOLS (length (symbols_of qs)) ≡ a → nat_lt MAX_PROCESSES (length qs) ≡ b → nat_lt MAX_PLACES (places_of_all qs) ≡ c
      → (if a then Err (TooManySymbols (length (symbols_of qs))) else if b then Err (TooManyProcs (length qs)) else if c then Err (TooManyPlaces (places_of_all qs)) else Ok qs) ≡ Ok ps → (qs ≡ ps) × Few qs
  few_by qs ps true b c p q r e = not_ok _ ps e
  few_by qs ps false true c p q r e = not_ok _ ps e
  few_by qs ps false false true p q r e = not_ok _ ps e
  few_by qs ps false false false p q r e = (same_ok qs ps e, record { symbols = ltb-false MAX_SYMBOLS (length (symbols_of qs)) p; procs = ltb-false MAX_PROCESSES (length qs) q; places = ltb-false MAX_PLACES (places_of_all qs) r })

  limited_few : (qs ps : List Proc) → limited qs ≡ Ok ps → (qs ≡ ps) × Few qs
  limited_few qs ps e = few_by qs ps (nat_lt MAX_SYMBOLS (length (symbols_of qs))) (nat_lt MAX_PROCESSES (length qs)) (nat_lt MAX_PLACES (places_of_all qs)) refl refl refl e

  body_by : (ps : List Proc) (x : Result (List Proc) Refused) → ((qs : List Proc) → x ≡ Ok qs → Sound (length all) qs) → within x ≡ Ok ps → Sound (length all) ps × Few ps
  body_by ps (Err r) f e = not_ok r ps e
  body_by ps (Ok qs) f e = let k = limited_few qs ps e in subst (λ (rs : List Proc). Sound (length all) rs × Few rs) k.0 (f qs refl, k.1)

  pub record Good (n : ℕ) (s : Sentence) : Type 0 where
    pub good : GoodSentence n s
    pub listed : AllByRecursion (IsFactorIn all) s.factors

  body_sound : (n : ℕ) (known : List Known) (s : Sentence) (ps : List Proc) → n ≤ length all → AllByRecursion (IsGoodKnown (length all)) known → Good n s → body all file known s.factors ≡ Ok ps → Sound (length all) ps × Few ps
  body_sound n known s ps l h g e = body_by ps (weave all file known s.factors) (λ qs d. weave_sound n known s.factors qs l h g.good.0 g.good.1 g.listed d) e

  definition_by : (n : ℕ) (known : List Known) (s : Sentence) (qs : List Proc) (b : Bool) → (body all file known s.factors ≡ Ok qs → Sound (length all) qs) → (if b then Err (DefinedTwice s.at) else body all file known s.factors) ≡ Ok qs → Sound (length all) qs
  definition_by n known s qs true f e = not_ok _ qs e
  definition_by n known s qs false f e = f e

  then_by : (ps : List Proc) (x : Result (List Proc) Refused) (next : List Proc → Result (List Proc) Refused) → ((qs : List Proc) → x ≡ Ok qs → next qs ≡ Ok ps → Sound (length all) ps × Few ps) → and_then x next ≡ Ok ps → Sound (length all) ps × Few ps
  then_by ps (Err r) next f e = not_ok r ps e
  then_by ps (Ok qs) next f e = f qs refl e

  last_sound : (n : ℕ) (known : List Known) (ss : List Sentence) (ps : List Proc) → n ≤ length all → 0 < length ss → AllByRecursion (IsGoodKnown (length all)) known → AllByRecursion (Good n) ss → last_of all file known ss ≡ Ok ps → Sound (length all) ps × Few ps
  last_sound n known [] ps l o h g e = absurd (omega (arith, o))
  last_sound n known (s ∷ []) ps l o h g e = body_sound n known s ps l h g.0 e
  last_sound n known (s ∷ t ∷ ss) ps l o h g e =
      then_by ps (definition all file known s) (λ qs. last_of all file (known ++ defined_by (name_of s.name) qs ∷ []) (t ∷ ss))
      (λ qs d k. last_sound n (known ++ defined_by (name_of s.name) qs ∷ []) (t ∷ ss) ps l (omega arith)
      (all_joined (IsGoodKnown (length all)) known (defined_by (name_of s.name) qs ∷ []) h (definition_by n known s qs (list_any (λ k. bytes_eq (name_of s.name) k.name) known) (λ b. (body_sound n known s qs l h g.0 b).0) d, tt)) g.1 k) e

-- ---- the command
symbols_below : (n : ℕ) (ps : List Proc) → AllByRecursion (GoodProc n) ps → AllByRecursion (λ a. a < n) (symbols_in (marks_of_all ps))
symbols_below n [] h = tt
symbols_below n (p ∷ ps) h = subst (λ (xs : List ℕ). AllByRecursion (λ a. a < n) xs) (sym (map-append (λ (m : Mark). m.sym.0) (marks_of_proc p) (marks_of_all ps)))
    (all_joined (λ a. a < n) (symbols_in (marks_of_proc p)) (symbols_in (marks_of_all ps)) h.0.symbols (symbols_below n ps h.1))

shaped_all : (n : ℕ) (f : ℕ → ℕ) (ps : List Proc) → AllByRecursion (GoodProc n) ps → AllByRecursion IsProc (ren_all f ps)
shaped_all n f [] h = tt
shaped_all n f (p ∷ ps) h = (proc_kept f p h.0.shaped, shaped_all n f ps h.1)

bodied_all : (n : ℕ) (f : ℕ → ℕ) (ps : List Proc) → AllByRecursion (GoodProc n) ps → AllByRecursion (λ p. IsTrue (is_some p.body)) (ren_all f ps)
bodied_all n f [] h = tt
bodied_all n f (p ∷ ps) h = (body_kept f p h.0.bodied, bodied_all n f ps h.1)

brackets_all : (n : ℕ) (f : ℕ → ℕ) (ps : List Proc) → AllByRecursion (GoodProc n) ps → AllByRecursion (λ p. brackets_of_proc p ≤ 64) (ren_all f ps)
brackets_all n f [] h = tt
brackets_all n f (p ∷ ps) h = (subst (λ k. k ≤ 64) (sym (proc_brackets f p)) h.0.brackets, brackets_all n f ps h.1)

command_by : (all : List (List ℕ)) (base : ℕ) (ps : List Proc) → Kept base all → Sound (length all) ps → Few ps → IsCommand (names_in all (symbols_of ps)) (renumbered ps)
command_by all base ps k s f =
    let below = all_each (λ a. a < length all) [] (symbols_in (marks_of_all ps)) tt (symbols_below (length all) ps s.good) in
    let many : length (names_in all (symbols_of ps)) ≡ length (symbols_of ps) = length-map (symbols_of ps) (λ a. get_or all a []) in
    let q = rank (symbols_of ps) in
    record {
      some = omega (arith, s.some, ren_length q ps);
      shaped = shaped_all (length all) q ps s.good;
      bodied = bodied_all (length all) q ps s.good;
      numbered = subst (λ n. IsNumbered 0 (marks_of_all (renumbered ps)) n) (sym many) (renumbered_numbered ps);
      distinct = names_distinct all (symbols_of ps) k.distinct below (symbols_distinct ps);
      formed = names_formed all (symbols_of ps) k.formed below;
      few_brackets = brackets_all (length all) q ps s.good;
      few_symbols = subst (λ n. n ≤ MAX_SYMBOLS) (sym many) f.symbols;
      few_procs = subst (λ n. n ≤ MAX_PROCESSES) (sym (ren_length q ps)) f.procs;
      few_places = subst (λ n. n ≤ MAX_PLACES) (sym (ren_places q ps)) f.places;
    }

good_sentences : (all : List (List ℕ)) (file : List Sentence) (n : ℕ) (ss : List Sentence) → AllByRecursion (GoodSentence n) ss → AllByRecursion (λ s. AllByRecursion (IsFactorIn all) s.factors) ss → AllByRecursion (Good all file n) ss
good_sentences all file n [] g a = tt
good_sentences all file n (s ∷ ss) g a = (record { good = g.0; listed = a.0 }, good_sentences all file n ss g.1 a.1)

pub is_command : (names : List (List ℕ)) (ss : List Sentence) (ps : List Proc) → GoodFile names ss → AllByRecursion (λ s. AllByRecursion (IsFactorIn (all_names names ss)) s.factors) ss → last_of (all_names names ss) ss [] ss ≡ Ok ps
    → IsCommand (names_in (all_names names ss) (symbols_of ps)) (renumbered ps)
is_command names ss ps g a e =
    let k = kept_all names ss g in
    let s = last_sound (all_names names ss) ss (length names) [] ss ps k.long g.some tt (good_sentences (all_names names ss) ss (length names) ss g.sentences a) e in
    command_by (all_names names ss) (length names) ps k s.0 s.1
