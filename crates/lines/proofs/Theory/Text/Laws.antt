-- Laws of the output: how long its texts are, and the whole of it as written.
use Rattle.std.specs.Prelude.{ℕ, ◌+◌, ◌*◌, ◌≤◌, ◌≡◌, refl, Bool, true, false, cond, List, [], ◌∷◌, ◌++◌, length, drop}
use Rattle.std.proofs.Common.{arith, suc-mul, sym, ap, subst, ◌∙◌, append_assoc, length-append}
use Rattle.calculus.specs.Sets.{here, there, union_of}
use Rattle.calculus.specs.Rows.{Row, Width}
use Rattle.calculus.proofs.Theory.Decimal.Laws.{length_digits}
use Rattle.query.specs.Code.Writing.{wrote}
use Rattle.query.proofs.Theory.Code.Writing.Laws.{wrote-end, wrote-front}
use Rattle.answer.specs.Code.Listing.{cut}
use Rattle.answer.proofs.Theory.Code.Listing.Cut.{length_cut, cut-width}
use Rattle.lines.specs.Text.{decimal, spaced, line, word_safe, word_unsafe, word_columns, word_row, head_text, text_of, printed}

-- ---- how long texts are

pub length-decimal : (n : ℕ) → length (decimal n) ≤ 10
unfolding decimal
length-decimal n = length_digits 10 n

pub length-spaced : (ns : List ℕ) → length (spaced ns) ≤ 11 * length ns
length-spaced [] = omega arith
length-spaced (n ∷ ns) = omega (arith, length-append (decimal n) (spaced ns), length-decimal n, length-spaced ns)

pub length-line : (word ns : List ℕ) → length (line word ns) ≤ length word + 11 * length ns + 1
length-line word ns = omega (arith, length-append word (spaced ns ++ (10 ∷ [])), length-append (spaced ns) (10 ∷ []), length-spaced ns)

pub length-rows : (word : List ℕ) (k : ℕ) (rows : List Row) → Width k rows → length (union_of (line word) rows) ≤ length rows * (length word + 1) + 11 * (length rows * k)
length-rows word k [] w = omega arith
length-rows word k (r ∷ rows) w =
    omega (arith, length-append (line word r) (union_of (line word) rows), length-line word r, w r (here refl), length-rows word k rows (λ u i. w u (there i)), suc-mul (length rows) (length word + 1), suc-mul (length rows) k)

-- The length of the lines of n rows that stand one after the other in a list.
pub length-cut-rows : (k n : ℕ) (xs : List ℕ) → n * k ≤ length xs → length (union_of (line word_row) (cut k n xs)) ≤ 4 * n + 11 * (n * k)
length-cut-rows k n xs h =
    let l = subst (λ m. length (union_of (line word_row) (cut k n xs)) ≤ m * 4 + 11 * (m * k)) (length_cut k n xs) (length-rows word_row k (cut k n xs) (cut-width k n xs h)) in
    omega (arith, l)

pub length-verdict : (safe : Bool) → length (line (cond safe word_safe word_unsafe) []) ≤ 7
length-verdict true = omega arith
length-verdict false = omega arith

pub length-head : (safe : Bool) (cols : List ℕ) → length (head_text safe cols) ≤ 15 + 11 * length cols
length-head safe cols =
    omega (arith, length-append (line (cond safe word_safe word_unsafe) []) (line word_columns cols), length-verdict safe, length-line word_columns cols)

-- Numbers after numbers.
pub spaced-append : (ns ms : List ℕ) → spaced (ns ++ ms) ≡ spaced ns ++ spaced ms
spaced-append [] ms = refl
spaced-append (n ∷ ns) ms = ap (λ l. 32 ∷ (decimal n ++ l)) (spaced-append ns ms) ∙ ap (λ l. 32 ∷ l) (sym (append_assoc (decimal n) (spaced ns) (spaced ms)))

-- ---- the whole output

-- The output's text, written at the front of a list that has room for it.
pub wrote-printed : (bs t out after : List ℕ) (r : ℕ) → text_of bs ≡ t → length t ≤ length out → (r, after) ≡ wrote 0 t out → ((r, after) ≡ printed bs out) × (r ≤ length out)
wrote-printed bs t out after r e h w =
    (w ∙ wrote-front t out h ∙ ap (λ u. (length u, u ++ drop (length u) out)) (sym e), omega (arith, wrote-end 0 r t out after w))
