use Rattle.{mg_show.specs.{Drawn.{graph_end, graph_head}, WritingLemmas.{of_put, of_then, puts_same, puts_then}}, std.proofs.Common.refl}
use Rattle.mg_show.proofs.graph.put_ranked.Goals as goal

pub returns : goal.returns
returns g c =
    let nodes = puts_then g.K.Sink (puts_then g.K.Sink (puts_same g.K.Sink {q = graph_head} refl c.add.ensures) c.put_thread_nodes.ensures)
    c.put_nodes.ensures in
    of_then g.D.Disk g.K.Sink
    (of_then g.D.Disk g.K.Sink (of_put g.D.Disk g.K.Sink (g.met.D.Disk.now_has_been c.args.disk.now)
    (puts_then g.K.Sink nodes c.put_domains.ensures)) c.put_lists.ensures)
    (of_put g.D.Disk g.K.Sink (g.met.D.Disk.now_has_been c.put_lists.new.disk) (puts_same g.K.Sink {q = graph_end} refl c.add-2.ensures))
