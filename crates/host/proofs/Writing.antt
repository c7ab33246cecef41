-- Laws of values for what is written: the library's bytes of a number, and a verdict's fields from the front on.
use Rattle.std.specs.Prelude.{ℕ, zero, suc, ◌+◌, ◌*◌, ◌<◌, ◌≤◌, ◌^◌, ◌≡◌, refl, Bool, true, false, List, [], ◌∷◌, ◌++◌, length, get_or, take, replicate}
use Rattle.std.proofs.Common.{arith, sym, ap, ◌∙◌, append_assoc, length-append, add-one, length-take-le, w16, w64}
use Rattle.std.specs.Int.{to_be_bytes}
use mir.Val.{bool_byte}
use Rattle.std.proofs.lemmas.Nat.{be_bytes_2, be_bytes_8}
use Rattle.std.proofs.Math.Seq.{take-suc}
use Rattle.calculus.specs.Sets.{union_of}
use Rattle.verdict.specs.Verdict.{Verdict}
use Rattle.host.specs.Entry.{flag, short_bytes, long_bytes, verdict_fields, verdict_size}

pub flag-byte : (b : Bool) → bool_byte b ≡ flag b
flag-byte true = refl
flag-byte false = refl

pub big-endian-short : (n : ℕ) → n < 65536 → to_be_bytes w16 n ≡ short_bytes n
big-endian-short n h = be_bytes_2 (short_bytes n) n refl bytes (omega arith)
  where
    bytes : (i : ℕ) → get_or (short_bytes n) i 0 < 256
    bytes zero = omega arith
    bytes (suc zero) = omega arith
    bytes (suc (suc i)) = omega arith

pub big-endian-long : (n : ℕ) → n < 2 ^ 64 → to_be_bytes w64 n ≡ long_bytes n
big-endian-long n h = be_bytes_8 (long_bytes n) n refl bytes (omega arith)
  where
    bytes : (i : ℕ) → get_or (long_bytes n) i 0 < 256
    bytes zero = omega arith
    bytes (suc zero) = omega arith
    bytes (suc (suc zero)) = omega arith
    bytes (suc (suc (suc zero))) = omega arith
    bytes (suc (suc (suc (suc zero)))) = omega arith
    bytes (suc (suc (suc (suc (suc zero))))) = omega arith
    bytes (suc (suc (suc (suc (suc (suc zero)))))) = omega arith
    bytes (suc (suc (suc (suc (suc (suc (suc zero))))))) = omega arith
    bytes (suc (suc (suc (suc (suc (suc (suc (suc i)))))))) = omega arith

-- ---- the bytes of a verdict

abbrev pub zeros : List ℕ
zeros = replicate verdict_size 0

-- Before the generators, and with the first i of them.
abbrev pub until_6 : Verdict → List ℕ
until_6 v = flag v.safe ∷ v.columns.count ∷ v.columns.variables

abbrev pub generated : Verdict → ℕ → List ℕ
generated v i = until_6 v ++ union_of long_bytes (take i v.generators)

-- One generator more.
pub generated-next : (v : Verdict) (i : ℕ) → i < length v.generators → generated v (i + 1) ≡ generated v i ++ long_bytes (get_or v.generators i 0)
generated-next v i h =
    ap (λ gs. until_6 v ++ union_of long_bytes gs) (ap (λ k. take k v.generators) (add-one i) ∙ take-suc v.generators i 0 h)
    ∙ ap (λ bs. until_6 v ++ bs) (union-last (take i v.generators) (get_or v.generators i 0))
    ∙ sym (append_assoc (until_6 v) (union_of long_bytes (take i v.generators)) (long_bytes (get_or v.generators i 0)))
  where
    union-last : (gs : List ℕ) (g : ℕ) → union_of long_bytes (gs ++ (g ∷ [])) ≡ union_of long_bytes gs ++ long_bytes g
    union-last [] g = refl
    union-last (x ∷ gs) g = ap (λ bs. long_bytes x ++ bs) (union-last gs g) ∙ sym (append_assoc (long_bytes x) (union_of long_bytes gs) (long_bytes g))

pub length-union : (gs : List ℕ) → length (union_of long_bytes gs) ≡ 8 * length gs
length-union [] = refl
length-union (g ∷ gs) = omega (arith, length-append (long_bytes g) (union_of long_bytes gs), length-union gs)

pub length-generated : (v : Verdict) (i : ℕ) → length v.columns.variables ≡ 4 → i ≤ length v.generators → length (generated v i) ≡ 6 + 8 * i
length-generated v i e h =
    omega (arith, e, length-append v.columns.variables (union_of long_bytes (take i v.generators)), length-union (take i v.generators), length-take-le i v.generators h)

-- Up to the form: the generators, and the two fields after them.
pub all-fields : (v : Verdict) → ((until_6 v ++ union_of long_bytes v.generators) ++ short_bytes v.ungenerated) ++ long_bytes v.unranged ≡ verdict_fields v
all-fields v =
    let u = union_of long_bytes v.generators in
    append_assoc (until_6 v ++ u) (short_bytes v.ungenerated) (long_bytes v.unranged) ∙ append_assoc (until_6 v) u (short_bytes v.ungenerated ++ long_bytes v.unranged)
