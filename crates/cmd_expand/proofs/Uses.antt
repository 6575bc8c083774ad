-- What a use, and the factors of a sentence, mean by the plan.
use Rattle.std.proofs.Common.{◌≡◌, ℕ, ◌+◌, ◌<◌, ◌≤◌, List, [], ◌∷◌, ◌++◌, map, length, get_or, drop, Option, Some, None, Result, Ok, Err, refl, sym, ap, ◌∙◌, arith, subst, append_assoc, append-nil, length-append}
use Rattle.std.specs.Option.{IfSome}
use Rattle.std.proofs.lemmas.List.{length-map, drop_more, drop_all}
use Rattle.cmd_tree.specs.declared.tree.Proc.{Proc}
use Rattle.cmd_text.specs.declared.file.Sentence.{Sentence}
use Rattle.cmd_text.specs.declared.file.Factor.{Factor}
use Rattle.cmd_text.specs.File.{Use}
use Rattle.cmd_rename.specs.Symbols.{symbols_of}
use Rattle.cmd_expand.specs.declared.pairs.Pair.{Pair}
use Rattle.cmd_expand.specs.declared.plan.Line.{Line}
use Rattle.cmd_expand.specs.declared.plan.Plan.{Plan}
use Rattle.cmd_expand.specs.Names.{number, with_name}
use Rattle.cmd_expand.specs.Pairs.{pair_of, first_fault, Refused}
use Rattle.cmd_expand.specs.Expansion.{Known, found, missing, use_of, renamed_by, factor, weave, prepend, followed, within, limited, body, and_then, definition, defined_by, name_of, last_of}
use Rattle.cmd_expand.specs.Mirror.Plan.{procs_known, IsLine, IsPlan}
use Rattle.cmd_expand.proofs.Found.{found_at, found_past, number_in, inserted_in}

pub if_some_map : {A : Type 0} → (o : Option A) (P Q : A → Type 0) → ((r : A) → P r → Q r) → IfSome o P → IfSome o Q
if_some_map None P Q f h = tt
if_some_map (Some r) P Q f h = f r h

pub if_some_is : {A : Type 0} → (o : Option A) (r : A) (Q : A → Type 0) → o ≡ Some r → Q r → IfSome o Q
if_some_is o r Q e h = subst (λ u. IfSome u Q) (sym e) h

pub known_length : (known : List Known) (p : Plan) → IsPlan known p → length known ≡ length p.lines.items
known_length known p q = sym (length-map known (λ k. k.procs)) ∙ q.lines.many

pub use_missing : (known : List Known) (p : Plan) (u : Use) (of : ℕ) → IsPlan known p → of ≡ number p.defined u.name → length p.lines.items ≤ of
    → use_of p.names p.sentences.now u (found known u.name) ≡ Err (missing p.names p.sentences.now u)
use_missing known p u of q e l = ap (use_of p.names p.sentences.now u) (found_past known q.rest p.defined u.name of q.defined e (omega (arith, l, known_length known p q)))

pub line_at : (known : List Known) (p : Plan) (ls : List Line) (of : ℕ) (line : Line) → IsPlan known p → ls ≡ p.lines.items → of < length ls → line ≡ get_or ls of line
    → IsLine (procs_known known) of line (get_or (procs_known known) of [])
line_at known p ls of line q s l h = subst (λ u. IsLine (procs_known known) of u (get_or (procs_known known) of [])) (sym (h ∙ ap (λ u. get_or u of line) s))
    (q.lines.line of line (subst (λ (u : List Line). of < length u) s l))

pub use_found : (known : List Known) (p : Plan) (u : Use) (ls : List Line) (of : ℕ) (line : Line) (pairs : List Pair) → IsPlan known p → of ≡ number p.defined u.name → ls ≡ p.lines.items → of < length ls
    → line ≡ get_or ls of line → pairs ≡ map (pair_of p.names) u.renames
    → use_of p.names p.sentences.now u (found known u.name) ≡ renamed_by pairs (get_or (procs_known known) of []) (first_fault line.symbols.items pairs)
use_found known p u ls of line pairs q e s l h n =
    let ps = get_or (procs_known known) of [] in
    let fits : of < length known = omega (arith, l, known_length known p q, ap length s) in
    let same : line.symbols.items ≡ symbols_of ps = (line_at known p ls of line q s l h).symbols in
    ap (use_of p.names p.sentences.now u) (found_at known q.rest p.defined u.name of q.defined e fits)
    ∙ (λ k. renamed_by (sym n k) ps (first_fault (sym same k) (sym n k)))

pub use_kept : (known : List Known) (p : Plan) (n : List ℕ) (of : ℕ) → IsPlan known p → of ≡ number p.defined n → of < length p.lines.items → with_name p.defined n ≡ p.defined
use_kept known p n of q e l =
    let many : length p.defined ≡ length (map (λ (k : Known). k.name) known) + length q.rest = ap length q.defined ∙ length-append (map (λ (k : Known). k.name) known) q.rest in
    inserted_in p.defined n (number_in p.defined n (omega (arith, e, l, many, known_length known p q, length-map known (λ (k : Known). k.name))))

-- ---- factor by factor
prepend_both : (ps qs : List Proc) (w : Result (List Proc) Refused) → prepend ps (prepend qs w) ≡ prepend (ps ++ qs) w
prepend_both ps qs (Ok rs) = ap Ok (sym (append_assoc ps qs rs))
prepend_both ps qs (Err r) = refl

module _ (names : List (List ℕ)) (file : List Sentence) (known : List Known) where
  rest_of : (fs : List Factor) (i : ℕ) (f : Factor) → i < length fs → f ≡ get_or fs i f → weave names file known (drop i fs) ≡ followed (factor names file known f) (weave names file known (drop (i + 1) fs))
  rest_of fs i f l h = ap (weave names file known) (drop_more fs i f l) ∙ ap (λ u. followed (factor names file known u) (weave names file known (drop (i + 1) fs))) (sym h)

  pub weave_more : (fs : List Factor) (i : ℕ) (f : Factor) (ps qs rs : List Proc) → i < length fs → f ≡ get_or fs i f → weave names file known fs ≡ prepend ps (weave names file known (drop i fs))
      → factor names file known f ≡ Ok qs → rs ≡ ps ++ qs → weave names file known fs ≡ prepend rs (weave names file known (drop (i + 1) fs))
  weave_more fs i f ps qs rs l h w e s =
      w ∙ ap (prepend ps) (rest_of fs i f l h ∙ ap (λ u. followed u (weave names file known (drop (i + 1) fs))) e)
      ∙ prepend_both ps qs (weave names file known (drop (i + 1) fs)) ∙ ap (λ u. prepend u (weave names file known (drop (i + 1) fs))) (sym s)

  pub weave_wrong : (fs : List Factor) (i : ℕ) (f : Factor) (ps : List Proc) (r : Refused) → i < length fs → f ≡ get_or fs i f → weave names file known fs ≡ prepend ps (weave names file known (drop i fs))
      → factor names file known f ≡ Err r → body names file known fs ≡ Err r
  weave_wrong fs i f ps r l h w e = ap within (w ∙ ap (prepend ps) (rest_of fs i f l h ∙ ap (λ u. followed u (weave names file known (drop (i + 1) fs))) e))

  pub weave_whole : (fs : List Factor) (i : ℕ) (ps : List Proc) → length fs ≤ i → weave names file known fs ≡ prepend ps (weave names file known (drop i fs)) → body names file known fs ≡ limited ps
  weave_whole fs i ps l w = ap within (w ∙ ap (λ u. prepend ps (weave names file known u)) (drop_all i fs l) ∙ ap Ok (append-nil ps))

-- ---- sentence by sentence
module _ (names : List (List ℕ)) (file : List Sentence) where
  last_cons : (known : List Known) (s : Sentence) (rest : List Sentence) (m : Sentence)
      → last_of names file known (s ∷ rest ++ m ∷ []) ≡ and_then (definition names file known s) (λ ps. last_of names file (known ++ defined_by (name_of s.name) ps ∷ []) (rest ++ m ∷ []))
  last_cons known s [] m = refl
  last_cons known s (t ∷ rest) m = refl

  last_at : (known : List Known) (ds : List Sentence) (i : ℕ) (s m : Sentence) → i < length ds → s ≡ get_or ds i s
      → last_of names file known (drop i ds ++ m ∷ []) ≡ and_then (definition names file known s) (λ ps. last_of names file (known ++ defined_by (name_of s.name) ps ∷ []) (drop (i + 1) ds ++ m ∷ []))
  last_at known ds i s m l h =
      ap (λ u. last_of names file known (u ++ m ∷ [])) (drop_more ds i s l ∙ ap (λ u. u ∷ drop (i + 1) ds) (sym h)) ∙ last_cons known s (drop (i + 1) ds) m

  pub last_more : (known : List Known) (ds : List Sentence) (i : ℕ) (s m : Sentence) (ps : List Proc) (w : Result (List Proc) Refused) → i < length ds → s ≡ get_or ds i s
      → w ≡ last_of names file known (drop i ds ++ m ∷ []) → definition names file known s ≡ Ok ps → w ≡ last_of names file (known ++ defined_by (name_of s.name) ps ∷ []) (drop (i + 1) ds ++ m ∷ [])
  last_more known ds i s m ps w l h e d = e ∙ last_at known ds i s m l h ∙ ap (λ u. and_then u (λ qs. last_of names file (known ++ defined_by (name_of s.name) qs ∷ []) (drop (i + 1) ds ++ m ∷ []))) d

  pub last_wrong : (known : List Known) (ds : List Sentence) (i : ℕ) (s m : Sentence) (r : Refused) (w : Result (List Proc) Refused) → i < length ds → s ≡ get_or ds i s
      → w ≡ last_of names file known (drop i ds ++ m ∷ []) → definition names file known s ≡ Err r → w ≡ Err r
  last_wrong known ds i s m r w l h e d = e ∙ last_at known ds i s m l h ∙ ap (λ u. and_then u (λ qs. last_of names file (known ++ defined_by (name_of s.name) qs ∷ []) (drop (i + 1) ds ++ m ∷ []))) d

  pub last_main : (known : List Known) (ds : List Sentence) (i : ℕ) (m : Sentence) (w : Result (List Proc) Refused) → length ds ≤ i → w ≡ last_of names file known (drop i ds ++ m ∷ []) → w ≡ body names file known m.factors
  last_main known ds i m w l e = e ∙ ap (λ u. last_of names file known (u ++ m ∷ [])) (drop_all i ds l)
