-- `columns_inject::inject_at` meets its contract: each matrix is that of its w.
-- Assumes nothing.
use native.Mathlib.Omega.{arith}
use Rattle.definition.specs.Injection.{matrix}
use Rattle.definition.specs.Width.{block_count}
use Rattle.columns_definition.specs.Columns.{inject_column, inject_dump}
use Rattle.columns_inject.specs.Coefficients.{injected}
use Rattle.columns_inject.proofs.inject_at.Goals as goal

pub inject_by-requires : goal.inject_by-requires
unfolding block_count
inject_by-requires c = let p = c.requires in (omega arith, (omega arith, ((rw c.in-W3.is at p.0), p.1)))

pub returns-in-W3 : goal.returns-in-W3
unfolding injected inject_dump inject_column matrix block_count
returns-in-W3 c = rw c.in-W3.is c.inject_by.ensures

pub inject_by-requires-in-W4 : goal.inject_by-requires-in-W4
unfolding block_count
inject_by-requires-in-W4 c = let p = c.requires in (omega arith, (omega arith, ((rw c.in-W4.is at p.0), p.1)))

pub returns-in-W4 : goal.returns-in-W4
unfolding injected inject_dump inject_column matrix block_count
returns-in-W4 c = rw c.in-W4.is c.inject_by-in-W4.ensures

pub inject_by-requires-in-W5 : goal.inject_by-requires-in-W5
unfolding block_count
inject_by-requires-in-W5 c = let p = c.requires in (omega arith, (omega arith, ((rw c.in-W5.is at p.0), p.1)))

pub returns-in-W5 : goal.returns-in-W5
unfolding injected inject_dump inject_column matrix block_count
returns-in-W5 c = rw c.in-W5.is c.inject_by-in-W5.ensures
