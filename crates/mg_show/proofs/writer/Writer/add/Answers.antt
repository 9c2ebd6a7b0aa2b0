use Rattle.{mg_show.specs.{Writing.{Held, Puts}, WritingLemmas.puts_kept}, std.proofs.Common.{subst, sym, rules}}
use Rattle.mg_show.proofs.writer.Writer.add.Goals as goal

pub returns : goal.returns
returns g c =
    subst (λ (h : Held). Puts g.K.Sink c.args.text.now c.args.sink.now c.make_room.new.sink c.args.self.now h) (sym c.append.ensures)
    (puts_kept g.K.Sink c.args.text.now c.args.sink.now c.make_room.new.sink c.args.self.now c.make_room.new.self (search rules) c.make_room.ensures.puts)
