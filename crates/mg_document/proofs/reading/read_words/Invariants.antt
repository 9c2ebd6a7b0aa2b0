use Rattle.{mg_document.specs.Replies.{bytes_behind, ended}, std.proofs.Common.{◌≡◌, ◌+◌, ◌-◌, []}}
use Rattle.mg_document.proofs.reading.read_words.Given as goal

-- the bytes so far, and those of the replies that are left
abbrev pub invariant-loop-k : goal.invariant-loop-k
invariant-loop-k l = bytes_behind l.bytes.items (l.k + 2) (l.count - l.k) (ended l.rest) ≡ bytes_behind [] 2 l.count (ended l.fn.replies)
