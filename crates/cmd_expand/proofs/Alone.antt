-- A file of `main` alone whose processes are all written out means its own command.
use Rattle.std.proofs.Common.{◌≡◌, ℕ, zero, suc, ◌≤◌, Bool, true, false, List, [], ◌∷◌, ◌++◌, map, length, get_or, take, Ok, Err, refl, sym, ap, ◌∙◌, arith, add-one}
use Rattle.std.specs.Prelude.{nat_lt, if◌then◌else◌}
use Rattle.std.proofs.lemmas.List.{map-append, take_all, take_more}
use Rattle.cmd_tree.specs.declared.tree.Proc.{Proc}
use Rattle.cmd_tree.specs.declared.limits.TheConstants.{MAX_SYMBOLS, MAX_PROCESSES, MAX_PLACES}
use Rattle.cmd_tree.specs.Limits.{places_of_all}
use Rattle.cmd_text.specs.declared.file.Sentence.{Sentence}
use Rattle.cmd_text.specs.declared.file.Factor.TheVariants.{Own}
use Rattle.cmd_text.proofs.MainRead.{main_read}
use Rattle.cmd_rename.specs.Symbols.{symbols_of, renumbered, counted}
use Rattle.cmd_rename.proofs.Numbered.{numbered_symbols, numbered_same, counted_long}
use Rattle.cmd_expand.specs.Names.{with_factors, all_names}
use Rattle.cmd_expand.specs.Files.{IsFile}
use Rattle.cmd_expand.specs.Pairs.{TooManySymbols, TooManyProcs, TooManyPlaces}
use Rattle.cmd_expand.specs.Expansion.{limited, within, followed, weave, last_of, command_of, expansion}
use Rattle.cmd_expand.specs.Alone.{as_written}

own_names : (names : List (List ℕ)) (ps : List Proc) → with_factors names (map Own ps) ≡ names
own_names names [] = refl
own_names names (p ∷ ps) = own_names names ps

own_weave : (names : List (List ℕ)) (file : List Sentence) (ps : List Proc) → weave names file [] (map Own ps) ≡ Ok ps
own_weave names file [] = refl
own_weave names file (p ∷ ps) = ap (λ r. followed (Ok (p ∷ [])) r) (own_weave names file ps)

names_taken : (names : List (List ℕ)) (k : ℕ) → k ≤ length names → map (λ a. get_or names a []) (counted k) ≡ take k names
names_taken names zero l = refl
names_taken names (suc k) l = map-append (λ a. get_or names a []) (counted k) (k ∷ [])
    ∙ ap (λ u. u ++ get_or names k [] ∷ []) (names_taken names k (omega (arith, l))) ∙ sym (ap (λ n. take n names) (sym (add-one k)) ∙ take_more names k [] l)

counted_names : (names : List (List ℕ)) → map (λ a. get_or names a []) (counted (length names)) ≡ names
counted_names names = names_taken names (length names) (omega arith) ∙ take_all (length names) names (omega arith)

-- the processes within the limits, as a command
limited_as : (names : List (List ℕ)) (ps : List Proc) (xs : List ℕ) → symbols_of ps ≡ xs → length xs ≡ length names → map (λ a. get_or names a []) xs ≡ names
    → renumbered ps ≡ ps → command_of names (limited ps) ≡ as_written names ps
limited_as names ps xs e n m r = by (nat_lt MAX_SYMBOLS (length (symbols_of ps))) (nat_lt MAX_SYMBOLS (length names)) (ap (nat_lt MAX_SYMBOLS) long)
    (nat_lt MAX_PROCESSES (length ps)) (nat_lt MAX_PLACES (places_of_all ps))
  where
    long : length (symbols_of ps) ≡ length names
    long = ap length e ∙ n

    named : map (λ a. get_or names a []) (symbols_of ps) ≡ names
    named = ap (map (λ a. get_or names a [])) e ∙ m

    by : (b c : Bool) → b ≡ c → (d f : Bool) → command_of names (if b then Err (TooManySymbols (length (symbols_of ps)))
        else if d then Err (TooManyProcs (length ps)) else if f then Err (TooManyPlaces (places_of_all ps)) else Ok ps)
        ≡ (if c then Err (TooManySymbols (length names)) else if d then Err (TooManyProcs (length ps))
        else if f then Err (TooManyPlaces (places_of_all ps)) else Ok (record { names = names; procs = ps }))
    by true true q d f = ap (λ k. Err (TooManySymbols k)) long
    by true false q d f = absurd (cc)
    by false true q d f = absurd (cc)
    by false false q true f = refl
    by false false q false true = refl
    by false false q false false = λ k. Ok (record { names = named k; procs = r k })

pub own_command : (names : List (List ℕ)) (main : Sentence) (procs : List Proc) → IsFile names (main ∷ []) → main.factors ≡ map Own procs
    → expansion names (main ∷ []) ≡ as_written names procs
own_command names main procs f e =
    let h = main_read f.bytes names main procs e f.text f.shallow in
    let same : all_names names (main ∷ []) ≡ names = ap (with_factors names) e ∙ own_names names procs in
    let woven : weave names (main ∷ []) [] main.factors ≡ Ok procs = ap (weave names (main ∷ []) []) e ∙ own_weave names (main ∷ []) procs in
    ap (λ ns. command_of ns (last_of ns (main ∷ []) [] (main ∷ []))) same ∙ ap (λ r. command_of names (within r)) woven
    ∙ limited_as names procs (counted (length names)) (numbered_symbols procs (length names) h.numbered) (counted_long (length names)) (counted_names names)
    (numbered_same procs (length names) h.numbered)
