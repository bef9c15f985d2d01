-- `senders::hear` meets its contract: it goes one of the ways that the definition has.
-- Assumes nothing.
use Rattle.std.proofs.Common.{◌≡◌, ◌≤◌, true, length, sym, ap, ◌∙◌, arith}
use borrow.Author.Tests.{not-true, not-false}
use Rattle.senders.specs.declared.Counted.{Counted}
use Rattle.senders.specs.Hearing.{senders_most}
use Rattle.senders.specs.Table.{table_length, row_set, fits}
use Rattle.senders.proofs.Rows.{fits_parts, goes_on_lem, heard_unfit, heard_known, heard_stuck, heard_new, heard_full}
use Rattle.senders.proofs.hear.Goals as goal

pub returns-then-not-fits : goal.returns-then-not-fits
returns-then-not-fits c =
    let a = c.args in
    let both = heard_unfit a.table.now a.rows a.who a.number (sym c.fits.ensures ∙ not-true _ c.if-not-fits.true-raw) in record {
      table_after = both.0;
      value = both.1;
    }

pub row_of-i-requires : goal.row_of-i-requires
row_of-i-requires c =
    -- the table and the rows in use are such
    let fit : (let a = c.args in fits a.table.now a.rows ≡ true) = sym c.fits.ensures ∙ not-false _ c.if-not-fits.false-raw in
    let parts : (let a = c.args in (length a.table.now ≡ table_length) × (a.rows ≤ senders_most)) = let a = c.args in fits_parts a.table.now a.rows fit in
    let p = parts in record {
      n_le_senders_most = p.1;
      table_len = p.0;
    }

pub row_in-c-requires : goal.row_in-c-requires
row_in-c-requires c =
    let fit : (let a = c.args in fits a.table.now a.rows ≡ true) = sym c.fits.ensures ∙ not-false _ c.if-not-fits.false-raw in
    let parts : (let a = c.args in (length a.table.now ≡ table_length) × (a.rows ≤ senders_most)) = let a = c.args in fits_parts a.table.now a.rows fit in
    let p = parts in record {
      i_lt_senders_most = omega (arith, c.if-i-rows.true, p.1);
      table_len = p.0;
    }

pub returns-then-not-can_go_on : goal.returns-then-not-can_go_on
returns-then-not-can_go_on c =
    let a = c.args in
    let both = heard_stuck a.table.now a.rows a.who a.number c.row_of-i.result c.row_of-i.ensures c.row_in-c.result c.if-i-rows.true
    c.row_in-c.ensures (sym c.can_go_on.ensures ∙ not-true _ c.if-not-can_go_on.true-raw) in record {
      table_after = both.0;
      value = both.1;
    }

pub again-requires : goal.again-requires
again-requires c = goes_on_lem _ (sym c.can_go_on.ensures ∙ not-false _ c.if-not-can_go_on.false-raw)

pub put_row-requires : goal.put_row-requires
put_row-requires c =
    let fit : (let a = c.args in fits a.table.now a.rows ≡ true) = sym c.fits.ensures ∙ not-false _ c.if-not-fits.false-raw in
    let parts : (let a = c.args in (length a.table.now ≡ table_length) × (a.rows ≤ senders_most)) = let a = c.args in fits_parts a.table.now a.rows fit in
    let p = parts in record {
      i_lt_senders_most = omega (arith, c.if-i-rows.true, p.1);
      table_len = p.0;
    }

pub returns-then-i-rows : goal.returns-then-i-rows
returns-then-i-rows c =
    let fit : (let a = c.args in fits a.table.now a.rows ≡ true) = sym c.fits.ensures ∙ not-false _ c.if-not-fits.false-raw in
    let a = c.args in
    let both = heard_known a.table.now a.rows a.who a.number c.row_of-i.result c.row_of-i.ensures c.row_in-c.result c.again.result _
    fit c.if-i-rows.true c.row_in-c.ensures (sym c.can_go_on.ensures ∙ not-false _ c.if-not-can_go_on.false-raw) c.again.ensures c.put_row.ensures in record {
      table_after = both.0;
      value = both.1;
    }

pub put_row-requires-then-rows-lt-SENDERS_MOST : goal.put_row-requires-then-rows-lt-SENDERS_MOST
put_row-requires-then-rows-lt-SENDERS_MOST c =
    let fit : (let a = c.args in fits a.table.now a.rows ≡ true) = sym c.fits.ensures ∙ not-false _ c.if-not-fits.false-raw in
    let parts : (let a = c.args in (length a.table.now ≡ table_length) × (a.rows ≤ senders_most)) = let a = c.args in fits_parts a.table.now a.rows fit in
    record {
      i_lt_senders_most = omega (arith, c.if-rows-lt-SENDERS_MOST.true);
      table_len = parts.0;
    }

pub returns-then-rows-lt-SENDERS_MOST : goal.returns-then-rows-lt-SENDERS_MOST
returns-then-rows-lt-SENDERS_MOST c =
    let fit : (let a = c.args in fits a.table.now a.rows ≡ true) = sym c.fits.ensures ∙ not-false _ c.if-not-fits.false-raw in
    let a = c.args in
    let both = heard_new a.table.now a.rows a.who a.number c.row_of-i.result c.row_of-i.ensures _ fit c.if-i-rows.false
    (omega (arith, c.if-rows-lt-SENDERS_MOST.true)) (c.put_row-then-rows-lt-SENDERS_MOST.ensures ∙ ap (λ (k : Counted). row_set a.table.now a.rows k) c.first.ensures) in record {
      table_after = both.0;
      value = both.1;
    }

pub returns : goal.returns
returns c =
    let a = c.args in
    let both = heard_full a.table.now a.rows a.who a.number c.row_of-i.result c.row_of-i.ensures c.if-i-rows.false (omega (arith, c.if-rows-lt-SENDERS_MOST.false)) in record {
      table_after = both.0;
      value = both.1;
    }
