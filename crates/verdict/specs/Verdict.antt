-- The verdict's reply: document 01, "From formula to verdict". Definitions only; the laws are in Verdict/Laws.antt.
use Rattle.std.specs.Prelude.{ℕ, false, List, [], map, Bool, Result, Ok, Err}
use Rattle.calculus.specs.Lists.{padded}
use Rattle.calculus.specs.Generators.{Verdict as Findings, verdict, safe}
use Rattle.causes.specs.Causes.{Answer, Done, Refused, number_of, place_of}
use Rattle.query.specs.declared.Query.{Query}
use Rattle.query.specs.declared.Columns.{Columns}
use Rattle.query.specs.Reading.{max_columns, read_of, formula, query_of, columns_of}
use Rattle.verdict.specs.Bits.{node_mask, variable_mask}
use Rattle.verdict.specs.Form.{form_of}
use Rattle.causes.specs.declared.Refusal.{Refusal}
use Rattle.verdict.specs.declared.Verdict.{Verdict as Judgement}

-- What the verdict answers.
pub record Verdict : Type 0 where
  pub answer : Answer
  pub form : Query
  pub columns : Columns
  pub generators : List ℕ
  pub ungenerated : ℕ
  pub unranged : ℕ
  pub safe : Bool

-- A refusal comes with no form, no columns, zero in every number, and not safe.
abbrev pub refusal_with : ℕ → ℕ → Query → Columns → Verdict
refusal_with n p form columns =
    record {
      answer = Refused n p;
      form = form;
      columns = columns;
      generators = padded max_columns 0 [];
      ungenerated = 0;
      unranged = 0;
      safe = false;
    }

abbrev pub refusal : ℕ → ℕ → Verdict
refusal n p = refusal_with n p (query_of [] []) (columns_of [])

-- The verdict that the code hands back (here `Judgement`) as an answer.
abbrev pub verdict_in : Judgement → Verdict
verdict_in v =
    record {
      answer = Done;
      form = v.form;
      columns = v.columns;
      generators = v.generators;
      ungenerated = v.ungenerated;
      unranged = v.unranged;
      safe = v.safe;
    }

-- What judging comes to by what it hands back.
abbrev pub judging_of : Result Judgement Refusal → Verdict
judging_of (Ok v) = verdict_in v
judging_of (Err r) = refusal (number_of r) (place_of r)

-- The calculus' verdict (here `Findings`) as numbers, beside the form whose nodes it names: the columns of the query as read, the generators of each as a 64-bit number, the
-- columns that aren't generated as a 16-bit number, the exists nodes whose variable isn't as a 64-bit number, and whether it is safe-range.
abbrev pub reported : Query → Findings → Verdict
reported form v =
    record {
      answer = Done;
      form = form;
      columns = columns_of v.columns_read;
      generators = padded max_columns 0 (map node_mask v.generators);
      ungenerated = variable_mask v.ungenerated;
      unranged = node_mask v.unranged;
      safe = safe v;
    }

-- The verdict on an accepted query.
abbrev pub judged : Query → Verdict
judged q = reported (form_of q) (verdict (formula q))

-- The reply: the reader's refusal, or the verdict on the query that it accepts.
abbrev pub verdict_reply : Answer → Query → Verdict
verdict_reply Done q = judged q
verdict_reply (Refused n p) q = refusal n p

-- The reply to the query in the bytes bs, for relations of the widths ws: causes 1 and 3 to 10.
abbrev pub verdict_of : List ℕ → List ℕ → Verdict
verdict_of ws bs = verdict_reply (read_of ws bs).answer (read_of ws bs).query
