use Rattle.{mg_model.specs.{Abbreviations.passwords_at, State.ObjectRow, Tests.is_password}, mg_rows.proofs.ObjectLists.{all-more, bad_password}}
use Rattle.mg_rows.proofs.ObjectLists.{good_passwords, length-passwords_at, none_tells, password-added, passwords-more, some_tells}
use Rattle.{mg_rows.{proofs.ObjectLists.too_many_passwords, specs.ObjectParts.{are_passwords, password_at, passwords_in}}, std.proofs.Common.◌≡◌}
use Rattle.std.{proofs.Common.{◌+◌, ap, sym, ◌∙◌, length, arith}, specs.List.list_all}
use Rattle.mg_rows.proofs.object_parts.read_passwords.Goals as goal

pub returns-then-count-gt-PASSWORD_LIMIT-clause-kept : goal.returns-then-count-gt-PASSWORD_LIMIT-clause-kept
returns-then-count-gt-PASSWORD_LIMIT-clause-kept c =
    let row = c.args.row.now in
    sym (none_tells (are_passwords (passwords_in c.args.bytes.now)) row (too_many_passwords c.args.bytes.now row c.number_at-count.result c.number_at-count.ensures c.if-count-gt-PASSWORD_LIMIT.true))

pub returns-in-None-clause-kept : goal.returns-in-None-clause-kept
returns-in-None-clause-kept c =
    let row = c.args.row.now in
    sym
    (none_tells (are_passwords (passwords_in c.args.bytes.now)) row
    (bad_password c.args.bytes.now row c.number_at-count.result c.number_at-count.ensures c.loop-k.k c.if-count-gt-PASSWORD_LIMIT.false c.loop-k-test.true
    (none_tells (is_password (password_at c.args.bytes.now c.loop-k.k)) (password_at c.args.bytes.now c.loop-k.k) c.in-None.ensures)))

pub loop-k-preserved : goal.loop-k-preserved
loop-k-preserved c =
    let bytes = c.args.bytes.now in
    let k = c.loop-k.k in
    let told = some_tells (is_password (password_at bytes k)) (password_at bytes k) c.in-Some.pw c.in-Some.ensures in
    record {
      value = password-added c.add_password.new.self c.loop-k.row c.args.row.now (passwords_at bytes 0 k) (passwords_at bytes 0 (k + 1)) (password_at bytes k) c.in-Some.pw
          c.loop-k.invariant.value c.add_password.ensures told.1 (passwords-more bytes k);
      rule = ap (list_all is_password) (passwords-more bytes k) ∙ all-more is_password (passwords_at bytes 0 k) (password_at bytes k) c.loop-k.invariant.rule told.0;
    }

pub add_password-requires : goal.add_password-requires
add_password-requires c =
    let long : length c.loop-k.row.passwords ≡ c.loop-k.k = ap (λ (f : ObjectRow). length f.passwords) c.loop-k.invariant.value ∙ length-passwords_at c.args.bytes.now 0 c.loop-k.k in
    let below = c.loop-k-test.true in
    let few = c.if-count-gt-PASSWORD_LIMIT.false in
    omega arith

pub returns-clause-kept : goal.returns-clause-kept
returns-clause-kept c =
    let few = c.if-count-gt-PASSWORD_LIMIT.false in
    let stop = c.loop-k-test.false in
    let within = c.loop-k.auto.k-end in
    sym (good_passwords c.args.bytes.now c.args.row.now c.number_at-count.result c.number_at-count.ensures c.loop-k.k few (omega arith) c.loop-k.invariant.rule).1

pub returns-clause-row : goal.returns-clause-row
returns-clause-row c _ =
    let few = c.if-count-gt-PASSWORD_LIMIT.false in
    let stop = c.loop-k-test.false in
    let within = c.loop-k.auto.k-end in
    let good = good_passwords c.args.bytes.now c.args.row.now c.number_at-count.result c.number_at-count.ensures c.loop-k.k few (omega arith) c.loop-k.invariant.rule in
    c.loop-k.invariant.value ∙ ap (λ v. record c.args.row.now { passwords = v }) good.0
