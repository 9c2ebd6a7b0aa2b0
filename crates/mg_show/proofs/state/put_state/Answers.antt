use Rattle.{mg_model.specs.State.ThreadRow, mg_show.{proofs.TextTold.text-told, specs.{Shown.numbered, StateText.{line, step_text, thread_text}}}}
use Rattle.{mg_show.specs.WritingLemmas.{of_put, of_same, of_then, puts_same, puts_then}, std.proofs.Common.{ℕ, ap, ◌∙◌, codes, flat_map, map}}
use Rattle.mg_show.proofs.state.put_state.Goals as goal

pub returns : goal.returns
returns g c =
    let settings = puts_then g.K.Sink (puts_same g.K.Sink c.print_settings.ensures c.line.ensures)
    (puts_same g.K.Sink (c.print_tariff.ensures ∙ ap (λ tariff. line (codes "tariff") (map step_text tariff)) c.tariff.ensures) c.line-2.ensures) in
    let counters = puts_same g.K.Sink c.print_counters.ensures c.line-3.ensures in
    let threads =
    puts_same g.K.Sink (ap (flat_map (λ (t : ℕ × ThreadRow). thread_text (numbered t))) c.deref.ensures.value) c.put_threads.ensures in
    of_same g.D.Disk g.K.Sink (λ r. text-told c.args.shown.now r c.requires.paid)
    (of_then g.D.Disk g.K.Sink
    (of_put g.D.Disk g.K.Sink (g.met.D.Disk.now_has_been c.args.disk.now)
    (puts_then g.K.Sink (puts_then g.K.Sink
    (puts_then g.K.Sink (puts_then g.K.Sink settings counters) c.put_accounts.ensures) c.put_objects.ensures) threads))
    c.put_words.ensures)
