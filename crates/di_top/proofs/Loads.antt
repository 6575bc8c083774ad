-- The bytes that are loaded of a file whose content is told, and a load within a longer call.
use Rattle.std.proofs.Common.{◌≡◌, ℕ, suc, ◌≤◌, List, Option, Some, sym, ap, ◌∙◌, subst, arith, take, length}
use Rattle.std.proofs.lemmas.List.{take_all, length-take}
use Rattle.di_io.specs.Faults.{Rose}
use Rattle.di_io.proofs.Rises.{rose_after}
use Rattle.di_top.specs.Calls.{Reading, Loaded, Unread}

pub some_same : (x y : List ℕ) (o : Option (List ℕ)) → o ≡ Some x → o ≡ Some y → x ≡ y
some_same x y o e k = cc

-- those that are within the limit are the whole content
pub loaded_whole : (most : ℕ) (r : Reading) (file bytes : List ℕ) → Loaded r file (suc most) bytes → length bytes ≤ most
    → (all : List ℕ) → r.content file ≡ Some all → bytes ≡ all
loaded_whole most r file bytes l few all told =
    let cut : bytes ≡ take (suc most) all = l.told all told in
    let short : length all ≤ most = omega (arith, ap length cut, length-take (suc most) all) in
    cut ∙ take_all (suc most) all (omega arith)

-- the content of a file that is within the limit is loaded whole
pub whole_loaded : (most : ℕ) (r : Reading) (file content : List ℕ) → r.content file ≡ Some content → length content ≤ most
    → Loaded r file (suc most) content
whole_loaded most r file content is few = record {
  most = omega (arith, few);
  told = λ all told. some_same content all (r.content file) is told
      ∙ sym (take_all (suc most) all (omega (arith, few, ap length (some_same content all (r.content file) is told))));
}

-- they are the same each time
pub one_load : (cap : ℕ) (r : Reading) (file bytes others : List ℕ) → ((all : List ℕ) × (r.content file ≡ Some all)) → Loaded r file cap bytes
    → Loaded r file cap others → bytes ≡ others
one_load cap r file bytes others (all, told) l m = l.told all told ∙ sym (m.told all told)

-- ---- a load within a longer call, before which the content was the same
pub loaded_within : (cap : ℕ) (r s : Reading) (file bytes : List ℕ) → s.content file ≡ r.content file → Loaded s file cap bytes → Loaded r file cap bytes
loaded_within cap r s file bytes same l = record { most = l.most; told = λ all told. l.told all (same ∙ told) }

pub unread_within : (r s : Reading) (file : List ℕ) → r.before file ≤ s.before file → s.now file ≡ r.now file → Unread s file → Unread r file
unread_within r s file early same u = subst (Rose (r.before file)) same (rose_after (r.before file) (s.before file) (s.now file) early u)
