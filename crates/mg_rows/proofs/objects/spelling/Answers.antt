use Rattle.{mg_model.specs.Spelling.{object_bytes, object_read}, mg_rows.proofs.{ObjectFields.object-written, ObjectRows.{filled-up, object-spelled}}}
use Rattle.std.proofs.Common.{◌≡◌, length, refl, ap, ◌∙◌, arith}
use Rattle.mg_rows.proofs.objects.spelling.Goals as goal

pub returns : goal.returns
returns c =
    let long : length c.add_untils.new.filling ≡ 752 = omega (arith, c.add_head.ensures.long, c.add_passwords.ensures.long, c.add_rights.ensures.long, c.add_entries.ensures.long, c.add_untils.ensures.long) in
    let is : c.whole.result ≡ object_bytes c.args.row.now =
    filled-up c.whole.result c.add_untils.new.filling 1024 752 272 c.whole.ensures long refl
    ∙ object-spelled c.args.row.now c.add_head.new.filling c.add_passwords.new.filling c.add_rights.new.filling c.add_entries.new.filling c.add_untils.new.filling
    c.entries.result.now c.passwords.result.now c.passwords-2.result.now c.passwords-3.result.now
    c.passwords.ensures c.passwords-2.ensures c.entries.ensures c.passwords-3.ensures
    c.add_head.ensures.spelled c.add_passwords.ensures.value c.add_rights.ensures.value c.add_entries.ensures.value c.add_untils.ensures.value in
    record { spelled = is; read_back = ap object_read is ∙ object-written c.args.row.now c.add_head.ensures.kept }
