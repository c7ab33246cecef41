-- `verdict::judge` meets its contract: a query that the reader accepts comes with its columns, which is what `judged` asks for.
use Prim.Native.Nat.{ℕ, ◌<◌, ◌^◌}
use borrow.Author.Rules.{rules}
use mir.Syntax.{w32}
use mir.Val.{Fits}
use mathlib.Core.Path.{◌≡◌, sym, ap, subst, subst⁻¹, ◌∙◌}
use lib.ListN.{get_or}
use mathlib.Core.List.{List}
use Rattle.calculus.specs.Generators.{columns}
use Rattle.causes.specs.Causes.{Done}
use Rattle.query.specs.declared.Query.{Query}
use Rattle.query.specs.declared.Columns.{Columns}
use Rattle.query.specs.Reading.{Reading, read_of, formula, columns_of}
use Rattle.query.specs.Accepted.{Accepted}
use Rattle.query.proofs.Theory.Accepted.Laws.{reading-accepted, read-columns}
use Rattle.verdict.specs.Verdict.{judged, verdict_of}
use Rattle.verdict.specs.Code.Form.{IsAccepted}
use Rattle.verdict.proofs.Theory.Verdict.Laws.{verdict-done}
use Rattle.verdict.proofs.judge.Goals as goal

-- What reading hands back.
module _ (ws bs : List ℕ) (q : Query) (cs : Columns) (e : record { answer = Done; query = q; columns = cs } ≡ read_of ws bs) where
  done : (read_of ws bs).answer ≡ Done
  done = ap (λ (r : Reading). r.answer) (sym e)

  accepted : ((i : ℕ) → get_or q.constants i 0 < 2 ^ 32) → IsAccepted q × (cs ≡ columns_of (columns (formula q)))
  accepted small = (
    (ws, subst⁻¹ (λ (r : Reading). Accepted ws r.query) e (reading-accepted ws bs (subst (λ (r : Reading). (i : ℕ) → get_or r.query.constants i 0 < 2 ^ 32) e small) done)),
    subst⁻¹ (λ (r : Reading). r.columns ≡ columns_of (columns (formula r.query))) e (read-columns ws bs done),
  )

  judged_read : judged q ≡ verdict_of ws bs
  judged_read = ap (λ (r : Reading). judged r.query) e ∙ sym (verdict-done ws bs done)

pub judged-requires : goal.judged-requires
judged-requires c = let p = c.in_ok-parsed in accepted c.args.widths c.args.bytes.now p.parsed.query p.parsed.columns p.ensures (λ i. let f : Fits w32 (get_or p.parsed.query.constants i 0) = search rules in f.fits)

pub returns : goal.returns
returns c = let p = c.in_ok-parsed in c.judged.ensures ∙ judged_read c.args.widths c.args.bytes.now p.parsed.query p.parsed.columns p.ensures
