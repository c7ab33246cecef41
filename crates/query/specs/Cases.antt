-- Document 01's worked cases over the store S, the starred ones, one for the trap that they leave open, two in which 000 allows a choice, and two in which document 02 does,
-- as one table over packed queries.
-- Definitions only; that the table is right is Cases/Laws.antt.
use Rattle.std.specs.Prelude.{ℕ, ◌≡◌, Bool, true, false, List, [], ◌∷◌, replicate}
use Rattle.calculus.specs.Reflects.{Reflects}
use Rattle.calculus.specs.Formula.{Term, var, con, Fmla, truth, rel, eq, neg, conj, disj, exists}
use Rattle.calculus.specs.Satisfaction.{fact, Database, Pool}
use Rattle.calculus.specs.Generators.{columns, Verdict, verdict}
use Rattle.calculus.specs.SafeRange.{SafeRange}
use Rattle.calculus.specs.Rows.{Result, endless, listed, Right}
use Rattle.causes.specs.Causes.{Done}
use Rattle.query.specs.Reading.{Reading, read_of, pool, formula}
use Rattle.query.specs.Packing.{pack}

-- A worked case: the records, the packed query with the formula and constants that it is the packing of, and what documents 01 and 02 say of it.
pub record Case : Type 0 where
  pub records : Database
  pub bytes : List ℕ
  pub constants : Pool
  pub query : Fmla
  pub says : Verdict
  pub says_safe : Bool
  pub gives : Result

-- The store S: relation 0 of width 2, relation 1 of width 1; x and y are variables 0 and 1.
abbrev pub widths : List ℕ
widths = 2 ∷ 1 ∷ replicate 14 0

abbrev pub S : Database
S = fact 0 (7 ∷ 3 ∷ []) ∷ fact 0 (9 ∷ 3 ∷ []) ∷ fact 1 (7 ∷ []) ∷ []

abbrev x : Term
x = var 0

abbrev y : Term
y = var 1

abbrev pub only : List ℕ → Result
only w = listed (w ∷ [])

-- The table.
abbrev pub cases : List Case
cases =
    -- 0(x,y) and not 1(x): node 0 generates both columns
    record {
      records = S;
      bytes = 0x10 ∷ 0x80 ∷ 0x20 ∷ 0x80 ∷ 0x10 ∷ 0x00 ∷ 0x22 ∷ 0x40 ∷ 0x00 ∷ 0x00 ∷ 0x60 ∷ 0x80 ∷ 0x00 ∷ 0x00 ∷ 0x80 ∷ 0x04 ∷ 0x00 ∷ 0x00 ∷ [];
      constants = [];
      query = conj (rel 0 (x ∷ y ∷ [])) (neg (rel 1 (x ∷ [])));
      says = record { columns_read = 0 ∷ 1 ∷ []; generators = (0 ∷ []) ∷ (0 ∷ []) ∷ []; ungenerated = []; unranged = [] };
      says_safe = true;
      gives = only (9 ∷ 3 ∷ []);
    }
    -- not 1(x)
    ∷ record {
      records = S;
      bytes = 0x10 ∷ 0x40 ∷ 0x22 ∷ 0x40 ∷ 0x00 ∷ 0x00 ∷ 0x60 ∷ 0x00 ∷ 0x00 ∷ 0x00 ∷ [];
      constants = [];
      query = neg (rel 1 (x ∷ []));
      says = record { columns_read = 0 ∷ []; generators = [] ∷ []; ungenerated = 0 ∷ []; unranged = [] };
      says_safe = false;
      gives = endless;
    }
    -- 1(x) and x = y
    ∷ record {
      records = S;
      bytes = 0x10 ∷ 0x60 ∷ 0x22 ∷ 0x40 ∷ 0x00 ∷ 0x00 ∷ 0x40 ∷ 0x10 ∷ 0x00 ∷ 0x00 ∷ 0x80 ∷ 0x02 ∷ 0x00 ∷ 0x00 ∷ [];
      constants = [];
      query = conj (rel 1 (x ∷ [])) (eq 0 y);
      says = record { columns_read = 0 ∷ 1 ∷ []; generators = (0 ∷ []) ∷ (0 ∷ []) ∷ []; ungenerated = []; unranged = [] };
      says_safe = true;
      gives = only (7 ∷ 7 ∷ []);
    }
    -- x = y and 1(x), which document 02's Point 3 makes safe-range: y as the right child generates x
    ∷ record {
      records = S;
      bytes = 0x10 ∷ 0x60 ∷ 0x40 ∷ 0x10 ∷ 0x00 ∷ 0x00 ∷ 0x22 ∷ 0x40 ∷ 0x00 ∷ 0x00 ∷ 0x80 ∷ 0x02 ∷ 0x00 ∷ 0x00 ∷ [];
      constants = [];
      query = conj (eq 0 y) (rel 1 (x ∷ []));
      says = record { columns_read = 0 ∷ 1 ∷ []; generators = (1 ∷ []) ∷ (1 ∷ []) ∷ []; ungenerated = []; unranged = [] };
      says_safe = true;
      gives = only (7 ∷ 7 ∷ []);
    }
    -- not (not 1(x) or not x = y)
    ∷ record {
      records = S;
      bytes = 0x10 ∷ 0xc0 ∷ 0x22 ∷ 0x40 ∷ 0x00 ∷ 0x00 ∷ 0x60 ∷ 0x00 ∷ 0x00 ∷ 0x00 ∷ 0x40 ∷ 0x10 ∷ 0x00 ∷ 0x00 ∷ 0x61 ∷ 0x00 ∷ 0x00 ∷ 0x00 ∷ 0xa0 ∷ 0x86 ∷ 0x00 ∷ 0x00 ∷ 0x62 ∷ 0x00 ∷ 0x00 ∷ 0x00 ∷ [];
      constants = [];
      query = neg (disj (neg (rel 1 (x ∷ []))) (neg (eq 0 y)));
      says = record { columns_read = 0 ∷ 1 ∷ []; generators = (0 ∷ []) ∷ [] ∷ []; ungenerated = 1 ∷ []; unranged = [] };
      says_safe = false;
      gives = only (7 ∷ 7 ∷ []);
    }
    -- 1(x) and y = y, over S and over no records
    ∷ record {
      records = S;
      bytes = 0x10 ∷ 0x60 ∷ 0x22 ∷ 0x40 ∷ 0x00 ∷ 0x00 ∷ 0x42 ∷ 0x10 ∷ 0x00 ∷ 0x00 ∷ 0x80 ∷ 0x02 ∷ 0x00 ∷ 0x00 ∷ [];
      constants = [];
      query = conj (rel 1 (x ∷ [])) (eq 1 y);
      says = record { columns_read = 0 ∷ 1 ∷ []; generators = (0 ∷ []) ∷ [] ∷ []; ungenerated = 1 ∷ []; unranged = [] };
      says_safe = false;
      gives = endless;
    }
    ∷ record {
      records = [];
      bytes = 0x10 ∷ 0x60 ∷ 0x22 ∷ 0x40 ∷ 0x00 ∷ 0x00 ∷ 0x42 ∷ 0x10 ∷ 0x00 ∷ 0x00 ∷ 0x80 ∷ 0x02 ∷ 0x00 ∷ 0x00 ∷ [];
      constants = [];
      query = conj (rel 1 (x ∷ [])) (eq 1 y);
      says = record { columns_read = 0 ∷ 1 ∷ []; generators = (0 ∷ []) ∷ [] ∷ []; ungenerated = 1 ∷ []; unranged = [] };
      says_safe = false;
      gives = listed [];
    }
    -- false and 1(x)
    ∷ record {
      records = S;
      bytes = 0x10 ∷ 0x60 ∷ 0x00 ∷ 0x00 ∷ 0x00 ∷ 0x00 ∷ 0x22 ∷ 0x40 ∷ 0x00 ∷ 0x00 ∷ 0x80 ∷ 0x02 ∷ 0x00 ∷ 0x00 ∷ [];
      constants = [];
      query = conj (truth false) (rel 1 (x ∷ []));
      says = record { columns_read = 0 ∷ []; generators = [] ∷ []; ungenerated = []; unranged = [] };
      says_safe = true;
      gives = listed [];
    }
    -- exists y 1(x)
    ∷ record {
      records = S;
      bytes = 0x10 ∷ 0x40 ∷ 0x22 ∷ 0x40 ∷ 0x00 ∷ 0x00 ∷ 0xc2 ∷ 0x00 ∷ 0x00 ∷ 0x00 ∷ [];
      constants = [];
      query = exists 1 (rel 1 (x ∷ []));
      says = record { columns_read = 0 ∷ []; generators = (0 ∷ []) ∷ []; ungenerated = []; unranged = [] };
      says_safe = true;
      gives = only (7 ∷ []);
    }
    -- exists x not 1(x)
    ∷ record {
      records = S;
      bytes = 0x10 ∷ 0x60 ∷ 0x22 ∷ 0x40 ∷ 0x00 ∷ 0x00 ∷ 0x60 ∷ 0x00 ∷ 0x00 ∷ 0x00 ∷ 0xc0 ∷ 0x08 ∷ 0x00 ∷ 0x00 ∷ [];
      constants = [];
      query = exists 0 (neg (rel 1 (x ∷ [])));
      says = record { columns_read = []; generators = []; ungenerated = []; unranged = 2 ∷ [] };
      says_safe = false;
      gives = only [];
    }
    -- x = 7, over S and over no records
    ∷ record {
      records = S;
      bytes = 0x10 ∷ 0x21 ∷ 0x00 ∷ 0x00 ∷ 0x00 ∷ 0x07 ∷ 0x41 ∷ 0x00 ∷ 0x00 ∷ 0x00 ∷ [];
      constants = 7 ∷ [];
      query = eq 0 (con 0);
      says = record { columns_read = 0 ∷ []; generators = (0 ∷ []) ∷ []; ungenerated = []; unranged = [] };
      says_safe = true;
      gives = only (7 ∷ []);
    }
    ∷ record {
      records = [];
      bytes = 0x10 ∷ 0x21 ∷ 0x00 ∷ 0x00 ∷ 0x00 ∷ 0x07 ∷ 0x41 ∷ 0x00 ∷ 0x00 ∷ 0x00 ∷ [];
      constants = 7 ∷ [];
      query = eq 0 (con 0);
      says = record { columns_read = 0 ∷ []; generators = (0 ∷ []) ∷ []; ungenerated = []; unranged = [] };
      says_safe = true;
      gives = only (7 ∷ []);
    }
    -- exists y (0(x,y) or 1(x))
    ∷ record {
      records = S;
      bytes = 0x10 ∷ 0x80 ∷ 0x20 ∷ 0x80 ∷ 0x10 ∷ 0x00 ∷ 0x22 ∷ 0x40 ∷ 0x00 ∷ 0x00 ∷ 0xa0 ∷ 0x02 ∷ 0x00 ∷ 0x00 ∷ 0xc2 ∷ 0x10 ∷ 0x00 ∷ 0x00 ∷ [];
      constants = [];
      query = exists 1 (disj (rel 0 (x ∷ y ∷ [])) (rel 1 (x ∷ [])));
      says = record { columns_read = 0 ∷ []; generators = (0 ∷ 1 ∷ []) ∷ []; ungenerated = []; unranged = 3 ∷ [] };
      says_safe = false;
      gives = listed ((7 ∷ []) ∷ (9 ∷ []) ∷ []);
    }
    -- not 1(x) and exists x 1(x): document 01's trap of the inner bound variable, which doesn't generate the outer one
    ∷ record {
      records = S;
      bytes = 0x10 ∷ 0xa0 ∷ 0x22 ∷ 0x40 ∷ 0x00 ∷ 0x00 ∷ 0x60 ∷ 0x00 ∷ 0x00 ∷ 0x00 ∷ 0x22 ∷ 0x40 ∷ 0x00 ∷ 0x00 ∷ 0xc0 ∷ 0x10 ∷ 0x00 ∷ 0x00 ∷ 0x80 ∷ 0x86 ∷ 0x00 ∷ 0x00 ∷ [];
      constants = [];
      query = conj (neg (rel 1 (x ∷ []))) (exists 0 (rel 1 (x ∷ [])));
      says = record { columns_read = 0 ∷ []; generators = [] ∷ []; ungenerated = 0 ∷ []; unranged = [] };
      says_safe = false;
      gives = endless;
    }
    -- 1(x) and 1(x): 000 allows either side, and document 01's order takes the left one
    ∷ record {
      records = S;
      bytes = 0x10 ∷ 0x60 ∷ 0x22 ∷ 0x40 ∷ 0x00 ∷ 0x00 ∷ 0x22 ∷ 0x40 ∷ 0x00 ∷ 0x00 ∷ 0x80 ∷ 0x02 ∷ 0x00 ∷ 0x00 ∷ [];
      constants = [];
      query = conj (rel 1 (x ∷ [])) (rel 1 (x ∷ []));
      says = record { columns_read = 0 ∷ []; generators = (0 ∷ []) ∷ []; ungenerated = []; unranged = [] };
      says_safe = true;
      gives = only (7 ∷ []);
    }
    -- not (not 1(x) or not 1(x)): a denied or, of which both sides generate x; the order takes the left one
    ∷ record {
      records = S;
      bytes = 0x10 ∷ 0xc0 ∷ 0x22 ∷ 0x40 ∷ 0x00 ∷ 0x00 ∷ 0x60 ∷ 0x00 ∷ 0x00 ∷ 0x00 ∷ 0x22 ∷ 0x40 ∷ 0x00 ∷ 0x00 ∷ 0x61 ∷ 0x00 ∷ 0x00 ∷ 0x00 ∷ 0xa0 ∷ 0x86 ∷ 0x00 ∷ 0x00 ∷ 0x62 ∷ 0x00 ∷ 0x00 ∷ 0x00 ∷ [];
      constants = [];
      query = neg (disj (neg (rel 1 (x ∷ []))) (neg (rel 1 (x ∷ []))));
      says = record { columns_read = 0 ∷ []; generators = (0 ∷ []) ∷ []; ungenerated = []; unranged = [] };
      says_safe = true;
      gives = only (7 ∷ []);
    }
    -- (x = y and 1(x)) and 1(y): document 02's "from an earlier child"; y came from node 3 before, and comes from node 1 now
    ∷ record {
      records = S;
      bytes = 0x10 ∷ 0xa0 ∷ 0x40 ∷ 0x10 ∷ 0x00 ∷ 0x00 ∷ 0x22 ∷ 0x40 ∷ 0x00 ∷ 0x00 ∷ 0x80 ∷ 0x02 ∷ 0x00 ∷ 0x00 ∷ 0x22 ∷ 0x42 ∷ 0x00 ∷ 0x00 ∷ 0x81 ∷ 0x06 ∷ 0x00 ∷ 0x00 ∷ [];
      constants = [];
      query = conj (conj (eq 0 y) (rel 1 (x ∷ []))) (rel 1 (y ∷ []));
      says = record { columns_read = 0 ∷ 1 ∷ []; generators = (1 ∷ []) ∷ (1 ∷ []) ∷ []; ungenerated = []; unranged = [] };
      says_safe = true;
      gives = only (7 ∷ 7 ∷ []);
    }
    -- x = y and (1(x) and 1(y)): the equality is tried after the right child, which generates each from its own record
    ∷ record {
      records = S;
      bytes = 0x10 ∷ 0xa0 ∷ 0x40 ∷ 0x10 ∷ 0x00 ∷ 0x00 ∷ 0x22 ∷ 0x40 ∷ 0x00 ∷ 0x00 ∷ 0x22 ∷ 0x42 ∷ 0x00 ∷ 0x00 ∷ 0x80 ∷ 0x84 ∷ 0x00 ∷ 0x00 ∷ 0x80 ∷ 0x06 ∷ 0x00 ∷ 0x00 ∷ [];
      constants = [];
      query = conj (eq 0 y) (conj (rel 1 (x ∷ [])) (rel 1 (y ∷ [])));
      says = record { columns_read = 0 ∷ 1 ∷ []; generators = (1 ∷ []) ∷ (2 ∷ []) ∷ []; ungenerated = []; unranged = [] };
      says_safe = true;
      gives = only (7 ∷ 7 ∷ []);
    }
    ∷ []

-- The query of a case, as the reader hands it back.
abbrev pub read_case : Case → Reading
read_case c = read_of widths c.bytes

abbrev pub formula_of : Case → Fmla
formula_of c = formula (read_case c).query

abbrev pub pool_of : Case → Pool
pool_of c = pool (read_case c).query

-- What it is for a case to be right.
pub record CaseRight (c : Case) : Type 0 where
  -- the bytes are the packing of its formula and constants, the reader accepts them, and reads these
  pub packing_is : pack c.constants c.query ≡ c.bytes
  pub accepted : (read_case c).answer ≡ Done
  pub formula_is : formula_of c ≡ c.query
  pub constants_are : pool_of c ≡ c.constants
  -- the verdict is that of the definitions, and the query is safe-range exactly when the case says so
  pub verdict_is : verdict (formula_of c) ≡ c.says
  pub safe_is : Reflects (SafeRange (formula_of c)) c.says_safe
  -- what it gives is right over all whole numbers
  pub gives_right : Right (pool_of c) c.records (formula_of c) (columns (formula_of c)) c.gives
