use native.Mathlib.Omega.{arith}
use borrow.Author.Tests.{eq-eqb, ne_eqb}
use Rattle.listing.proofs.which.Goals as goal

pub returns-then-first-sequence : goal.returns-then-first-sequence
returns-then-first-sequence c = (simp (eq-eqb _ _ c.if-first-sequence.true), omega arith)

pub returns-then-second-sequence : goal.returns-then-second-sequence
returns-then-second-sequence c = (simp (ne_eqb _ _ c.if-first-sequence.false, eq-eqb _ _ c.if-second-sequence.true), omega arith)

pub returns-then-third-sequence : goal.returns-then-third-sequence
returns-then-third-sequence c = (simp (ne_eqb _ _ c.if-first-sequence.false, ne_eqb _ _ c.if-second-sequence.false, eq-eqb _ _ c.if-third-sequence.true), omega arith)

pub returns : goal.returns
returns c = (simp (ne_eqb _ _ c.if-first-sequence.false, ne_eqb _ _ c.if-second-sequence.false, ne_eqb _ _ c.if-third-sequence.false), omega arith)
