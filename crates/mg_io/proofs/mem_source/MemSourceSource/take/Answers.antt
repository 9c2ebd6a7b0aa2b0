use Rattle.{mg_io.{proofs.Moving.{copied-gives, none-left}, specs.Memory.SourceState}, std.proofs.Common.{arith, ap, ◌∙◌, ◌≡◌, List, ℕ, take, drop}}
use Rattle.std.proofs.Common.{length, length-take-le}
use Rattle.mg_io.proofs.mem_source.MemSourceSource.take.Goals as goal

pub returns-clause-bytes : goal.returns-clause-bytes
returns-clause-bytes c =
    let n : ℕ = c.min-count.result in
    let bytes : List ℕ = c.args.self.now.bytes in
    let is_left : drop c.self.inside.at c.self.inside.bytes.items ≡ bytes = ap (λ (s : SourceState). s.bytes) c.self.view_is in
    let rest : c.rest-rest.result.now ≡ bytes = c.rest-rest.ensures ∙ is_left in
    let counts : length c.rest-rest.result.now ≡ length bytes = ap length rest in
    let a = c.copy_from_slice.ensures in (
      copied-gives c.self.inside.at n c.self.inside.bytes.items bytes c.copy_from_slice.new.self _ is_left (a.after ∙ ap (take n) rest) (a.len ∙ length-take-le n c.args.into.now (omega arith)),
      λ none room. none-left c.self.inside.at n c.self.inside.piece (length c.args.into.now) c.self.inside.bytes.items bytes is_left (omega arith) (omega arith) c.requires none,
    )
