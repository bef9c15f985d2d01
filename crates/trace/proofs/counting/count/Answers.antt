-- `trace::counting::count` meets its contract: each kind of line is counted as the definition has it.
-- Assumes nothing.
use native.Mathlib.Omega.{arith}
use Rattle.trace.proofs.Stepping.{later, on_unread, on_refused, on_sourceless, on_counted, on_crowded}
use Rattle.trace.proofs.counting.count.Goals as goal

pub returns-then-counts-ge-LINES_MOST : goal.returns-then-counts-ge-LINES_MOST
returns-then-counts-ge-LINES_MOST c =
    let both = later c.args.counts c.args.table.now c.requires.within c.args.said c.one_more.result (omega (arith, c.if-counts-ge-LINES_MOST.true)) c.one_more.ensures in record {
      table_after = both.0;
      answer_value = both.1.0;
      within_2 = both.1.1;
    }

pub returns-in-Unread : goal.returns-in-Unread
returns-in-Unread c =
    let both = on_unread c.args.counts c.args.table.now c.requires.within (omega (arith, c.if-counts-ge-LINES_MOST.false)) c.args.said c.requires.spoken
    c.one_more-in-Unread.result c.in-Unread.is c.one_more-in-Unread.ensures in record {
      table_after = both.0;
      answer_value = both.1.0;
      within_2 = both.1.1;
    }

pub returns-in-Refused : goal.returns-in-Refused
returns-in-Refused c =
    let both = on_refused c.args.counts c.args.table.now c.requires.within (omega (arith, c.if-counts-ge-LINES_MOST.false)) c.args.said c.requires.spoken
    c.in-Refused.is in record {
      table_after = both.0;
      answer_value = both.1.0;
      within_2 = both.1.1;
    }

pub returns-in-Sourceless : goal.returns-in-Sourceless
returns-in-Sourceless c =
    let both = on_sourceless c.args.counts c.args.table.now c.requires.within (omega (arith, c.if-counts-ge-LINES_MOST.false)) c.args.said c.requires.spoken
    c.in-Sourceless.is in record {
      table_after = both.0;
      answer_value = both.1.0;
      within_2 = both.1.1;
    }

pub returns-in-Some : goal.returns-in-Some
returns-in-Some c =
    let both = on_counted c.args.counts c.args.table.now c.requires.within (omega (arith, c.if-counts-ge-LINES_MOST.false)) c.args.said c.requires.spoken
    _ _ c.in-Heard.is c.requires.table_len _ c.in-Some.ensures.table_after c.in-Some.rows c.in-Some.ensures.value in record {
      table_after = both.0;
      answer_value = both.1.0;
      within_2 = both.1.1;
    }

pub returns-in-None : goal.returns-in-None
returns-in-None c =
    let both = on_crowded c.args.counts c.args.table.now c.requires.within (omega (arith, c.if-counts-ge-LINES_MOST.false)) c.args.said c.requires.spoken
    _ _ c.in-Heard.is c.requires.table_len _ c.in-None.ensures.table_after c.in-None.ensures.value in record {
      table_after = both.0;
      answer_value = both.1.0;
      within_2 = both.1.1;
    }
