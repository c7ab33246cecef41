-- `tables::layout::record_fits` meets its contract: a law for each way out.
use borrow.Author.Rules.{rules}
use native.Mathlib.Omega.{arith}
use borrow.Author.Tests.{eq-eqb, ne_eqb}
use mathlib.Core.Bool.{not}
use mathlib.Core.Logic.{⊎_elim}
use mathlib.Core.Path.{ap}
use Rattle.tables.proofs.Laws.{fits-none, fits-absent, fits-second, fits-third, fits-fourth, fits_all}
use Rattle.tables.proofs.layout.record_fits.Statement.{statement}
use Rattle.tables.proofs.layout.record_fits.Tie as tie

cast-relation : tie.Need-overflow_cast-relation
cast-relation c = search rules

returns : tie.Need-returns-then-relation-ge-RELATIONS
returns c = fits-none c.args.widths.now c.args.r c.if-relation-ge-RELATIONS.true

element-copy-out-width : tie.Need-bounds-widths-relation
element-copy-out-width c = search rules

returns-2 : tie.Need-returns-then-width-eq0
returns-2 c = fits-absent c.args.widths.now c.args.r c.if-relation-ge-RELATIONS.false c.if-width-eq0.true

returns-3 : tie.Need-returns-then-r-ne0
returns-3 c = fits-second c.args.widths.now c.args.r c.if-relation-ge-RELATIONS.false c.if-width-eq0.false c.if-width-le1.true (ap not (ne_eqb _ _ c.if-r-ne0.true))

returns-4 : tie.Need-returns-then-r-ne0-2
returns-4 c =
    fits-third c.args.widths.now c.args.r c.if-relation-ge-RELATIONS.false c.if-width-eq0.false c.if-width-le2.true (ap not (ne_eqb _ _ c.if-r-ne0-2.true))

returns-5 : tie.Need-returns-then-r-ne0-3
returns-5 c =
    fits-fourth
    c.args.widths.now
    c.args.r
    c.if-relation-ge-RELATIONS.false
    c.if-width-eq0.false
    c.if-width-le3.true
    (ap not (ne_eqb _ _ c.if-r-ne0-3.true))

returns-6 : tie.Need-returns
returns-6 c =
    fits_all
    c.args.widths.now
    c.args.r
    c.if-relation-ge-RELATIONS.false
    c.if-width-eq0.false
    (⊎_elim (λ s l. ap not (eq-eqb _ _ s.if-r-ne0.false)) (λ s l. absurd (omega arith)) c.else-width-le1.branch-raw)
    (⊎_elim (λ s l. ap not (eq-eqb _ _ s.if-r-ne0-2.false)) (λ s l. absurd (omega arith)) c.else-width-le2.branch-raw)
    (⊎_elim (λ s l. ap not (eq-eqb _ _ s.if-r-ne0-3.false)) (λ s l. absurd (omega arith)) c.else-width-le3.branch-raw)

pub record_fits_spec : {M : Type 1} → statement M
record_fits_spec = tie.close (tie.spec cast-relation returns element-copy-out-width returns-2 returns-3 returns-4 returns-5 returns-6)
