-- `text::numbers` meets its contract: a turn writes one number more.
use Rattle.std.proofs.Common.{arith, ◌≡◌, ◌∙◌, sym, ap, ℕ, ◌+◌, ◌*◌, ◌≤◌, ◌<◌, List, [], ◌∷◌, ◌++◌, length, get_or, take, append-nil, add-one, length-take-le}
use Rattle.std.proofs.Math.Seq.{take-suc}
use Rattle.query.specs.Code.Writing.{wrote}
use Rattle.query.proofs.Theory.Code.Writing.Laws.{wrote_then, wrote-end}
use Rattle.lines.specs.Text.{decimal, spaced}
use Rattle.lines.proofs.Theory.Text.Laws.{length-spaced, spaced-append}
use Rattle.lines.proofs.text.numbers.Goals as goal

-- The first i numbers are written, from `at` up to `end`.
module _ (list : List ℕ) (i at end : ℕ) (out₀ out : List ℕ) (h : i < length list) (w : (end, out) ≡ wrote at (spaced (take i list)) out₀) where
  -- One number more.
  next : (r : ℕ) (after : List ℕ) → (r, after) ≡ wrote end (32 ∷ decimal (get_or list i 0)) out → (r, after) ≡ wrote at (spaced (take (i + 1) list)) out₀
  next r after e =
      let n = get_or list i 0 in
      wrote_then at end r (spaced (take i list)) (32 ∷ decimal n) out₀ out after w e
      ∙ ap (λ l. wrote at (spaced (take i list) ++ (32 ∷ l)) out₀) (sym (append-nil (decimal n)))
      ∙ ap (λ l. wrote at l out₀) (sym (spaced-append (take i list) (n ∷ [])) ∙ ap spaced (sym (ap (λ k. take k list) (add-one i) ∙ take-suc list i 0 h)))

  -- Where they end.
  ends : end ≤ at + 11 * i
  ends = omega (arith, length-take-le i list (omega arith), wrote-end at end (spaced (take i list)) out₀ out w, length-spaced (take i list))

pub number-end-requires : goal.number-end-requires
number-end-requires c =
    let l = c.loop-n in let a = c.args in
    let e = ends a.list.now l.n-index a.at l.end a.out.now l.out c.loop-n-test.true l.invariant in
    (omega (arith, e), omega (arith, e))

pub loop-n-preserved : goal.loop-n-preserved
loop-n-preserved c =
    let l = c.loop-n in let a = c.args in
    next a.list.now l.n-index a.at l.end a.out.now l.out c.loop-n-test.true l.invariant c.number-end.result c.number-end.new.out c.number-end.ensures
