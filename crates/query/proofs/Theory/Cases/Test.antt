-- The computed test over the whole table of worked cases, and the formulas and constants that are read.
use Rattle.std.specs.Prelude.{◌≡◌, refl, Bool, true, false, ◌&&◌, List, [], ◌∷◌, T}
use Rattle.std.proofs.Math.Path.{subst⁻¹}
use Rattle.std.specs.Bool.{beq}
use Rattle.calculus.specs.Sets.{In, here, there, all_of, same_by, same_list}
use Rattle.calculus.specs.Generators.{columns, Verdict, verdict, safe}
use Rattle.calculus.specs.Rows.{Result, endless, listed}
use Rattle.calculus.specs.Evaluation.{query_result}
use Rattle.causes.specs.Causes.{is_done}
use Rattle.query.specs.Packing.{pack}
use Rattle.query.specs.Cases.{Case, cases, read_case, formula_of, pool_of}

abbrev pub same_verdict : Verdict → Verdict → Bool
same_verdict v w =
    same_list v.columns_read w.columns_read
    && same_by same_list v.generators w.generators
    && same_list v.ungenerated w.ungenerated
    && same_list v.unranged w.unranged

abbrev pub same_result : Result → Result → Bool
same_result endless endless = true
same_result endless (listed l) = false
same_result (listed l) endless = false
same_result (listed l) (listed m) = same_by same_list l m

-- The computed test of a case.
abbrev pub passes : Case → Bool
passes c =
    same_list (pack c.constants c.query) c.bytes
    && is_done (read_case c).answer
    && same_verdict (verdict (formula_of c)) c.says
    && beq (safe (verdict (formula_of c))) c.says_safe
    && same_result (query_result (pool_of c) c.records (formula_of c) (columns (formula_of c))) c.gives

pub cases-pass : T (all_of passes cases)
cases-pass = tt

-- The query and the constants of a case are those read.
abbrev pub Read : Case → Type 0
Read c = (formula_of c ≡ c.query) × (pool_of c ≡ c.constants)

-- Every member has the property.
abbrev Each : (Case → Type 0) → List Case → Type 0
Each P [] = Unit {0}
Each P (c ∷ cs) = P c × Each P cs

each_in : (P : Case → Type 0) {c : Case} (cs : List Case) → Each P cs → In c cs → P c
each_in P (d ∷ cs) e (here p) = subst⁻¹ P p e.0
each_in P (d ∷ cs) e (there i) = each_in P cs e.1 i
each_in P {c = c} [] e x'' = elim x'' [ ]

all_read : Each Read cases
all_read = ((refl, refl), ((refl, refl), ((refl, refl), ((refl, refl), ((refl, refl), ((refl, refl), ((refl, refl), ((refl, refl), ((refl, refl), ((refl, refl), ((refl, refl), ((refl, refl), ((refl, refl), ((refl, refl), ((refl, refl), ((refl, refl), ((refl, refl), ((refl, refl), tt))))))))))))))))))

pub case-read : (c : Case) → In c cases → Read c
case-read c i = each_in Read cases all_read i
