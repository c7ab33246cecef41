-- The worked cases are right: one computed test over the table, and one lemma that turns it into what each case says.
use Rattle.std.specs.Prelude.{◌≡◌, refl, Bool, true, false, List, [], T}
use Rattle.std.proofs.Common.{ap, subst}
use Rattle.std.proofs.Math.Path.{subst⁻¹}
use Rattle.std.specs.Bool.{beq}
use Rattle.calculus.specs.Sets.{In, same_list}
use Rattle.calculus.proofs.Theory.Sets.Laws.{reflects-all, reflects-same-by, reflects-same_list}
use Rattle.calculus.specs.Reflects.{Reflects, holds, fails}
use Rattle.calculus.proofs.Theory.Reflects.Laws.{reflected, reflects-T, reflects-map, reflects-and}
use Rattle.calculus.specs.Generators.{columns, Verdict, verdict, safe}
use Rattle.calculus.specs.SafeRange.{SafeRange}
use Rattle.calculus.proofs.Theory.SafeRange.Result.{safe-reflects, fv-columns}
use Rattle.calculus.specs.Rows.{Row, Result, endless, listed, Right}
use Rattle.calculus.specs.Evaluation.{query_result}
use Rattle.calculus.proofs.Theory.Evaluation.Laws.{result-right}
use Rattle.causes.specs.Causes.{Done}
use Rattle.causes.proofs.Theory.Causes.Laws.{reflects-done}
use Rattle.query.specs.Packing.{pack}
use Rattle.query.specs.Cases.{read_case, formula_of, pool_of, Case, cases, CaseRight}
use Rattle.query.proofs.Theory.Cases.Test.{same_result, same_verdict, passes, cases-pass, Read, case-read}

reflects-beq : (a b : Bool) → Reflects (a ≡ b) (beq a b)
reflects-beq true true = holds refl
reflects-beq true false = fails (λ e. subst T e tt)
reflects-beq false true = fails (λ e. subst (λ b. T (beq false b)) e tt)
reflects-beq false false = holds refl

pub reflects-same_verdict : (v w : Verdict) → Reflects (v ≡ w) (same_verdict v w)
reflects-same_verdict v w =
    reflects-map
    (λ h i. record { columns_read = h.0.0.0 i; generators = h.0.0.1 i; ungenerated = h.0.1 i; unranged = h.1 i })
    (λ e. (((ap (λ u. u.columns_read) e, ap (λ u. u.generators) e), ap (λ u. u.ungenerated) e), ap (λ u. u.unranged) e))
    (reflects-and (reflects-and (reflects-and (reflects-same_list v.columns_read w.columns_read) (reflects-same-by same_list reflects-same_list v.generators w.generators)) (reflects-same_list v.ungenerated w.ungenerated)) (reflects-same_list v.unranged w.unranged))

abbrev rows_of : Result → List Row
rows_of endless = []
rows_of (listed l) = l

abbrev is_listed : Result → Bool
is_listed endless = false
is_listed (listed l) = true

pub reflects-same_result : (a b : Result) → Reflects (a ≡ b) (same_result a b)
reflects-same_result endless endless = holds refl
reflects-same_result endless (listed l) = fails (λ e. subst⁻¹ (λ a. T (is_listed a)) e tt)
reflects-same_result (listed l) endless = fails (λ e. subst (λ a. T (is_listed a)) e tt)
reflects-same_result (listed l) (listed m) = reflects-map (ap listed) (ap rows_of) (reflects-same-by same_list reflects-same_list l m)

-- A case that passes the test and is read as it says is right.
pub passes-right : (c : Case) → T (passes c) → Read c → CaseRight c
passes-right c t read =
    record {
      packing_is = h.0.0.0.0;
      accepted = h.0.0.0.1;
      formula_is = read.0;
      constants_are = read.1;
      verdict_is = h.0.0.1;
      safe_is = subst (Reflects (SafeRange (formula_of c))) h.0.1 (safe-reflects (formula_of c));
      gives_right = subst (Right (pool_of c) c.records (formula_of c) (columns (formula_of c))) h.1 (result-right (pool_of c) c.records (formula_of c) (columns (formula_of c)) (fv-columns (formula_of c)));
    }
  where
    h : ((((pack c.constants c.query ≡ c.bytes) × ((read_case c).answer ≡ Done)) × (verdict (formula_of c) ≡ c.says)) × (safe (verdict (formula_of c)) ≡ c.says_safe)) × (query_result (pool_of c) c.records (formula_of c) (columns (formula_of c)) ≡ c.gives)
    h =
        reflected
        (reflects-and
        (reflects-and
        (reflects-and
        (reflects-and (reflects-same_list (pack c.constants c.query) c.bytes) (reflects-done (read_case c).answer))
        (reflects-same_verdict (verdict (formula_of c)) c.says))
        (reflects-beq (safe (verdict (formula_of c))) c.says_safe))
        (reflects-same_result (query_result (pool_of c) c.records (formula_of c) (columns (formula_of c))) c.gives))
        t

-- Every case of the table is right.
pub cases-right : (c : Case) → In c cases → CaseRight c
cases-right c i = passes-right c (reflected (reflects-all passes cases (λ d. reflects-T (passes d))) cases-pass c i) (case-read c i)
