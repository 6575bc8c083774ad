-- Each place of a file refuses the tokens that it has no move for.
use Rattle.std.proofs.Common.{◌≡◌, ℕ, List, Option, None, refl}
use Rattle.cmd_text.specs.declared.file.Sentence.{Sentence}
use Rattle.cmd_text.specs.declared.token.Token.{Token}
use Rattle.cmd_text.specs.declared.token.Token.TheVariants as code
use Rattle.cmd_text.specs.Mirror.ScanView.{token_of}
use Rattle.cmd_text.specs.File.{Head, Use}
use Rattle.cmd_text.specs.Mirror.Reader.{Partly, AtSentence, AtName, AtDefine, AtFactor, AfterName, AtFresh, AtSlash, AtWas, AfterPair, AfterFactor, AtEnd, step}

pub sentence_none : (number : List ℕ → ℕ) (ss : List Sentence) (t : Token) (w : List ℕ) (p : Option ℕ) → (t ≡ code.Let → ⊥) → (t ≡ code.Main → ⊥) → step number (AtSentence ss) (token_of t w) p ≡ None
sentence_none number ss code.Let w p h0 h1 = absurd (h0 refl)
sentence_none number ss code.Main w p h0 h1 = absurd (h1 refl)
sentence_none number ss t w p h0 h1 = refl

pub name_none : (number : List ℕ → ℕ) (ss : List Sentence) (t : Token) (w : List ℕ) (p : Option ℕ) → (t ≡ code.Word → ⊥) → step number (AtName ss) (token_of t w) p ≡ None
name_none number ss code.Word w p h0 = absurd (h0 refl)
name_none number ss t w p h0 = refl

pub define_none : (number : List ℕ → ℕ) (ss : List Sentence) (h : Head) (t : Token) (w : List ℕ) (p : Option ℕ) → (t ≡ code.Define → ⊥) → step number (AtDefine ss h) (token_of t w) p ≡ None
define_none number ss h code.Define w p h0 = absurd (h0 refl)
define_none number ss h t w p h0 = refl

pub factor_none : (number : List ℕ → ℕ) (q : Partly) (t : Token) (w : List ℕ) (p : Option ℕ) → (t ≡ code.Pref → ⊥) → (t ≡ code.Word → ⊥) → step number (AtFactor q) (token_of t w) p ≡ None
factor_none number q code.Pref w p h0 h1 = absurd (h0 refl)
factor_none number q code.Word w p h0 h1 = absurd (h1 refl)
factor_none number q t w p h0 h1 = refl

pub after_name_none : (number : List ℕ → ℕ) (q : Partly) (u : Use) (t : Token) (w : List ℕ) (p : Option ℕ) → (t ≡ code.LeftSq → ⊥) → (t ≡ code.Par → ⊥) → (t ≡ code.Dot → ⊥) → step number (AfterName q u) (token_of t w) p ≡ None
after_name_none number q u code.LeftSq w p h0 h1 h2 = absurd (h0 refl)
after_name_none number q u code.Par w p h0 h1 h2 = absurd (h1 refl)
after_name_none number q u code.Dot w p h0 h1 h2 = absurd (h2 refl)
after_name_none number q u t w p h0 h1 h2 = refl

pub fresh_none : (number : List ℕ → ℕ) (q : Partly) (u : Use) (t : Token) (w : List ℕ) (p : Option ℕ) → (t ≡ code.Word → ⊥) → step number (AtFresh q u) (token_of t w) p ≡ None
fresh_none number q u code.Word w p h0 = absurd (h0 refl)
fresh_none number q u t w p h0 = refl

pub slash_none : (number : List ℕ → ℕ) (q : Partly) (u : Use) (n : List ℕ) (r : ℕ) (t : Token) (w : List ℕ) (p : Option ℕ) → (t ≡ code.Slash → ⊥) → step number (AtSlash q u n r) (token_of t w) p ≡ None
slash_none number q u n r code.Slash w p h0 = absurd (h0 refl)
slash_none number q u n r t w p h0 = refl

pub was_none : (number : List ℕ → ℕ) (q : Partly) (u : Use) (n : List ℕ) (r : ℕ) (t : Token) (w : List ℕ) (p : Option ℕ) → (t ≡ code.Word → ⊥) → step number (AtWas q u n r) (token_of t w) p ≡ None
was_none number q u n r code.Word w p h0 = absurd (h0 refl)
was_none number q u n r t w p h0 = refl

pub after_pair_none : (number : List ℕ → ℕ) (q : Partly) (u : Use) (t : Token) (w : List ℕ) (p : Option ℕ) → (t ≡ code.Comma → ⊥) → (t ≡ code.RightSq → ⊥) → step number (AfterPair q u) (token_of t w) p ≡ None
after_pair_none number q u code.Comma w p h0 h1 = absurd (h0 refl)
after_pair_none number q u code.RightSq w p h0 h1 = absurd (h1 refl)
after_pair_none number q u t w p h0 h1 = refl

pub after_factor_none : (number : List ℕ → ℕ) (q : Partly) (t : Token) (w : List ℕ) (p : Option ℕ) → (t ≡ code.Par → ⊥) → (t ≡ code.Dot → ⊥) → step number (AfterFactor q) (token_of t w) p ≡ None
after_factor_none number q code.Par w p h0 h1 = absurd (h0 refl)
after_factor_none number q code.Dot w p h0 h1 = absurd (h1 refl)
after_factor_none number q t w p h0 h1 = refl

pub end_none : (number : List ℕ → ℕ) (ss : List Sentence) (t : Token) (w : List ℕ) (p : Option ℕ) → (t ≡ code.End → ⊥) → step number (AtEnd ss) (token_of t w) p ≡ None
end_none number ss code.End w p h0 = absurd (h0 refl)
end_none number ss t w p h0 = refl

pub ruleset refused_spots = (sentence_none, name_none, define_none, factor_none, after_name_none, fresh_none, slash_none, was_none, after_pair_none, after_factor_none, end_none)
