use Rattle.{mg_model.specs.{Bytes.{number_at, numbers_at}, State.ObjectRow, Tests.{all_distinct, is_entry_of}}, mg_rows.proofs.ObjectLists.all-more}
use Rattle.mg_rows.proofs.ObjectLists.{bad_entry, distinct-more, entry-added, good_entries, is_next, length-numbers_at, next-test, none_tells}
use Rattle.{mg_rows.{proofs.ObjectLists.{numbers-more, too_many_entries}, specs.ObjectParts.{are_entries, entries_in}}, std.proofs.Common.{◌≡◌, ◌+◌}}
use Rattle.std.{proofs.{Common.{◌*◌, true, false, ap, sym, not, length, ◌==◌, ◌∙◌, arith}, lemmas.Bool.{and_parts, not-true}}, specs.List.list_all}
use Rattle.std.specs.List.{list_any}
use Rattle.mg_rows.proofs.object_parts.read_entries.Goals as goal

pub returns-then-count-gt-ENTRY_LIMIT-clause-kept : goal.returns-then-count-gt-ENTRY_LIMIT-clause-kept
returns-then-count-gt-ENTRY_LIMIT-clause-kept c =
    let row = c.args.row.now in
    sym (none_tells (are_entries row.base row.pages (entries_in c.args.bytes.now)) row (too_many_entries c.args.bytes.now row row c.number_at-count.result c.number_at-count.ensures c.if-count-gt-ENTRY_LIMIT.true))

pub returns-then-not-may_be_entry-clause-kept : goal.returns-then-not-may_be_entry-clause-kept
returns-then-not-may_be_entry-clause-kept c =
    let bytes = c.args.bytes.now in
    let row = c.args.row.now in
    let k = c.loop-k.k in
    let fails = next-test c.loop-k.row row (numbers_at bytes 368 k) (number_at bytes (368 + 8 * k)) c.number_at-address.result false c.loop-k.invariant.value c.number_at-address.ensures c.if-not-may_be_entry.ensures in
    sym
    (none_tells (are_entries row.base row.pages (entries_in bytes)) row
    (bad_entry bytes row row c.number_at-count.result c.number_at-count.ensures k c.if-count-gt-ENTRY_LIMIT.false c.loop-k-test.true (sym fails)))

pub add_entry-requires-clause-fewer_than_16_entries : goal.add_entry-requires-clause-fewer_than_16_entries
add_entry-requires-clause-fewer_than_16_entries c =
    let long : length c.loop-k.row.entries ≡ c.loop-k.k = ap (λ (f : ObjectRow). length f.entries) c.loop-k.invariant.value ∙ length-numbers_at c.args.bytes.now 368 c.loop-k.k in
    let below = c.loop-k-test.true in
    let few = c.if-count-gt-ENTRY_LIMIT.false in
    omega arith

pub loop-k-preserved : goal.loop-k-preserved
loop-k-preserved c =
    let bytes = c.args.bytes.now in
    let row = c.args.row.now in
    let k = c.loop-k.k in
    let a = number_at bytes (368 + 8 * k) in
    let before = numbers_at bytes 368 k in
    let next : is_next row before a ≡ true = sym (next-test c.loop-k.row row before a c.number_at-address.result true c.loop-k.invariant.value c.number_at-address.ensures c.if-not-may_be_entry.ensures) in
    let parts = and_parts (is_entry_of row.base row.pages a) (not (list_any (λ entry. entry == a) before)) next in
    let more = numbers-more bytes 368 k in
    record {
      value = entry-added c.add_entry.new.self c.loop-k.row row before (numbers_at bytes 368 (k + 1)) a c.number_at-address.result c.loop-k.invariant.value c.add_entry.ensures c.number_at-address.ensures more;
      rule = ap (list_all (is_entry_of row.base row.pages)) more ∙ all-more (is_entry_of row.base row.pages) before a c.loop-k.invariant.rule parts.0;
      distinct = ap all_distinct more ∙ distinct-more before a c.loop-k.invariant.distinct (not-true (list_any (λ entry. entry == a) before) parts.1);
    }

pub returns-clause-kept : goal.returns-clause-kept
returns-clause-kept c =
    let row = c.args.row.now in
    let few = c.if-count-gt-ENTRY_LIMIT.false in
    let stop = c.loop-k-test.false in
    let within = c.loop-k.auto.k-end in
    sym (good_entries c.args.bytes.now row row c.number_at-count.result c.number_at-count.ensures c.loop-k.k few (omega arith) c.loop-k.invariant.rule c.loop-k.invariant.distinct).1

pub returns-clause-row : goal.returns-clause-row
returns-clause-row c _ =
    let row = c.args.row.now in
    let few = c.if-count-gt-ENTRY_LIMIT.false in
    let stop = c.loop-k-test.false in
    let within = c.loop-k.auto.k-end in
    let good = good_entries c.args.bytes.now row row c.number_at-count.result c.number_at-count.ensures c.loop-k.k few (omega arith) c.loop-k.invariant.rule c.loop-k.invariant.distinct in
    c.loop-k.invariant.value ∙ ap (λ v. record row { entries = v }) good.0
