use Rattle.{mg_calls_obj.specs.Door.ActsBy, mg_model.specs.declared.calls.Call.Call, mg_volume.specs.RunLemmas.call_wider, std.proofs.Common.arith}
use Rattle.std.proofs.Common.{subst, sym}
use Rattle.mg_calls_obj.proofs.door.act.Goals as goal

pub returns-in-Delete-clause-does : goal.returns-in-Delete-clause-does
returns-in-Delete-clause-does c =
    let P : Call → Type 0 = λ made. ActsBy made c.args.object c.args.volume.now c.delete_by_row.new.volume c.delete_by_row.result in
    call_wider _ (ActsBy c.args.call.now c.args.object) 129 129 c.args.volume.now c.delete_by_row.new.volume c.delete_by_row.result (omega arith)
    (λ acts. subst P (sym c.in-Delete.is) (λ image t spelled formed named may. acts image t c.in-Delete.base spelled formed named may)) c.delete_by_row.ensures.does

pub returns-in-Pwadd-clause-does : goal.returns-in-Pwadd-clause-does
returns-in-Pwadd-clause-does c =
    let P : Call → Type 0 = λ made. ActsBy made c.args.object c.args.volume.now c.pwadd_by_row.new.volume c.pwadd_by_row.result in
    call_wider _ (ActsBy c.args.call.now c.args.object) 2 129 c.args.volume.now c.pwadd_by_row.new.volume c.pwadd_by_row.result (omega arith)
    (λ acts. subst P (sym c.in-Pwadd.is) (λ image t spelled formed named may. acts image t c.in-Pwadd.base spelled formed named may)) c.pwadd_by_row.ensures

pub returns-in-Pwdel-clause-does : goal.returns-in-Pwdel-clause-does
returns-in-Pwdel-clause-does c =
    let P : Call → Type 0 = λ made. ActsBy made c.args.object c.args.volume.now c.pwdel_by_row.new.volume c.pwdel_by_row.result in
    call_wider _ (ActsBy c.args.call.now c.args.object) 1 129 c.args.volume.now c.pwdel_by_row.new.volume c.pwdel_by_row.result (omega arith)
    (λ acts. subst P (sym c.in-Pwdel.is) (λ image t spelled formed named may. acts image t c.in-Pwdel.base spelled formed named may)) c.pwdel_by_row.ensures.does

pub returns-in-Entry-clause-does : goal.returns-in-Entry-clause-does
returns-in-Entry-clause-does c =
    let P : Call → Type 0 = λ made. ActsBy made c.args.object c.args.volume.now c.entry_by_row.new.volume c.entry_by_row.result in
    call_wider _ (ActsBy c.args.call.now c.args.object) 1 129 c.args.volume.now c.entry_by_row.new.volume c.entry_by_row.result (omega arith)
    (λ acts. subst P (sym c.in-Entry.is) (λ image t spelled formed named may. acts image t c.in-Entry.base spelled formed named may)) c.entry_by_row.ensures

pub returns-in-Ext-clause-does : goal.returns-in-Ext-clause-does
returns-in-Ext-clause-does c =
    let P : Call → Type 0 = λ made. ActsBy made c.args.object c.args.volume.now c.ext_by_row.new.volume c.ext_by_row.result in
    call_wider _ (ActsBy c.args.call.now c.args.object) 1 129 c.args.volume.now c.ext_by_row.new.volume c.ext_by_row.result (omega arith)
    (λ acts. subst P (sym c.in-Ext.is) (λ image t spelled formed named may. acts image t c.in-Ext.base spelled formed named may)) c.ext_by_row.ensures

pub returns-in-Recharge-clause-does : goal.returns-in-Recharge-clause-does
returns-in-Recharge-clause-does c =
    let P : Call → Type 0 = λ made. ActsBy made c.args.object c.args.volume.now c.recharge_by_row.new.volume c.recharge_by_row.result in
    call_wider _ (ActsBy c.args.call.now c.args.object) 1 129 c.args.volume.now c.recharge_by_row.new.volume c.recharge_by_row.result (omega arith)
    (λ acts. subst P (sym c.in-Recharge.is) (λ image t spelled formed named may. acts image t c.in-Recharge.base spelled formed named may)) c.recharge_by_row.ensures
