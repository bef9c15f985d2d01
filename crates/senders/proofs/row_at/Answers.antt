-- `senders::row_at` meets its contract: a row is in its table, or there is none.
-- Assumes nothing.
use Rattle.std.proofs.Common.{◌≡◌, ℕ, ◌+◌, ◌≤◌, true, false, leb, List, sym, ◌∙◌, arith}
use mathlib.Core.Bool.{and-false}
use borrow.Author.Tests.{not-true, not-false, lt-leb}
use Rattle.senders.specs.Hearing.{senders_most, no_one}
use Rattle.senders.specs.Table.{counted_at, fits, row_in}
use Rattle.senders.proofs.Rows.{fits_parts}
use Rattle.senders.proofs.row_at.Goals as goal

-- the returns is in the table, or not
module _ (t : List ℕ) (i : ℕ) where
  there : fits t (i + 1) ≡ true → counted_at t i ≡ row_in t i
  unfolding row_in
  there h = simp h

  not_there : fits t (i + 1) ≡ false → no_one ≡ row_in t i
  unfolding row_in
  not_there h = simp h

  past : senders_most ≤ i → fits t (i + 1) ≡ false
  past h = let e : leb (i + 1) senders_most ≡ false = lt-leb (i + 1) senders_most (omega arith) in simp (e, and-false)

pub row_in-requires : goal.row_in-requires
row_in-requires c =
    let a = c.args in
    let p = fits_parts a.table.now (a.i + 1) (sym c.fits.ensures ∙ not-false _ c.if-not-fits.false-raw) in record {
      i_lt_senders_most = omega (arith, p.1);
      table_len = p.0;
    }

pub returns-then-i-ge-SENDERS_MOST : goal.returns-then-i-ge-SENDERS_MOST
returns-then-i-ge-SENDERS_MOST c = let a = c.args in not_there a.table.now a.i (past a.table.now a.i c.if-i-ge-SENDERS_MOST.true)

pub returns-then-not-fits : goal.returns-then-not-fits
returns-then-not-fits c =
    let a = c.args in
    not_there a.table.now a.i (sym c.fits.ensures ∙ not-true _ c.if-not-fits.true-raw)

pub returns : goal.returns
returns c =
    let a = c.args in
    c.row_in.ensures ∙ there a.table.now a.i (sym c.fits.ensures ∙ not-false _ c.if-not-fits.false-raw)
