-- The pieces of the input of a session, and each of its ends.
use Rattle.{mg_io.specs.Known.{Consumes-kept, Consumes-none, Consumes-then}, mg_model.specs.{Ended.ended_lines, Lines.lines, Print.answered}}
use Rattle.{mg_model.specs.{Words.is_newline, declared.calls.Line.Line}, mg_serve.proofs.Cutting.{ended_lines-exact, ended_lines-most}}
use Rattle.mg_serve.{proofs.IncomingSteps.Breaks-more, specs.{Incoming.{Breaks, Goes}, Machines.{Entry, Halts, IsInside, Point, Runs}, Readings.Few}}
use Rattle.{mg_serve.specs.{Readings.{Finishes, Reading, Size, Stops}, Waiting.no_replies, declared.ended.Ended.Ended}, std.proofs.Common.{refl, sym}}
use Rattle.std.proofs.{Common.{ap, inl, ◌∙◌, append_assoc, append-nil, arith, length-append, subst}, Math.Seq.take-append-add}
use Rattle.std.{proofs.lemmas.{Grind.common_steps, List.{length-take-le, take-append-drop, take_all}}, specs.Io.KnownBytes.{Consumes, IsAtEnd, Keeps}}
use Rattle.std.specs.{List.list_any, Prelude.{ℕ, ◌+◌, ◌-◌, ◌<◌, ◌≤◌, ◌≡◌, false, List, [], ◌++◌, length, take, drop, Option, Some, None}}
use Rattle.mg_serve.specs.declared.ended.Ended.TheVariants as ended

inside_size : (e : Ended) (limit count : ℕ) → IsInside e → Size e limit count
inside_size ended.Disk limit count h = tt
inside_size ended.Sink limit count h = tt
inside_size ended.Source limit count h = absurd h
inside_size ended.TooLong limit count h = absurd h

inside_few : (e : Ended) (calls replies batch : ℕ) → IsInside e → Few e calls replies batch
inside_few ended.Disk calls replies batch h = tt
inside_few ended.Sink calls replies batch h = tt
inside_few ended.Source calls replies batch h = absurd h
inside_few ended.TooLong calls replies batch h = absurd h

front_of : (n w : ℕ) (piece : List ℕ) → w ≤ n → take w (take n piece) ≡ take w piece
front_of n w piece h = grind (arith, common_steps)

-- the first bytes of those taken of a piece, and the others
front_and_back : (n w : ℕ) (piece : List ℕ) → w ≤ n → take w piece ++ drop w (take n piece) ≡ take n piece
front_and_back n w piece h = ap (λ v. v ++ drop w (take n piece)) (sym (front_of n w piece h)) ∙ take-append-drop w (take n piece)

none_more : (left left' left'' : Option (List ℕ)) (bytes piece : List ℕ) (n : ℕ) → Consumes left left' bytes → Consumes left' left'' (take n piece) → n ≡ 0 → Consumes left left'' bytes
none_more left left' left'' bytes piece n h k zero_is = grind (arith, append-nil)

-- the last line is one of the whole input
cut_last : (bytes part : List ℕ) (ls : List Line) → ((rest : List ℕ) → lines (bytes ++ rest) ≡ ls ++ lines (part ++ rest)) → lines bytes ≡ ls ++ lines part
cut_last bytes part ls cuts = ap (λ v. lines v) (sym (append-nil bytes)) ∙ cuts [] ∙ ap (λ v. ls ++ lines v) (append-nil part)

-- what was stepped before more bytes came is a part of their lines
came_first : (bytes : List ℕ) (ls more : List Line) → lines (bytes ++ []) ≡ ls ++ more → (later : List Line) × (lines bytes ≡ ls ++ later)
came_first bytes ls more cut = (more, ap (λ v. lines v) (sym (append-nil bytes)) ∙ cut)

some_nil : (left : Option (List ℕ)) (rest : List ℕ) → IsAtEnd left → left ≡ Some rest → rest ≡ []
some_nil None rest h e = cc
some_nil (Some xs) rest h e = cc

module _ {M D : Type 0} (Session : Entry M D → List Line → Point M D → Type 0) where
  pub Reading-none : (entry : Entry M D) (left : Option (List ℕ)) (p : Point M D) (part : List ℕ) → part ≡ [] → Session entry [] p → Reading Session entry left 0 p part left
  Reading-none entry left p part empty a = record {
    bytes = [];
    read = Consumes-none left;
    count = refl;
    ls = [];
    cut = λ rest. ap (λ v. lines (v ++ rest)) (sym empty);
    whole = ap (λ v. list_any is_newline v) empty;
    session = a;
  }

  -- how a piece more is cut
  cut_more : (bytes part piece : List ℕ) (ls : List Line) (p q : Point M D) (part' : List ℕ) → ((rest : List ℕ) → lines (bytes ++ rest) ≡ ls ++ lines (part ++ rest)) → (g : Goes Session p part piece q part')
      → (rest : List ℕ) → lines ((bytes ++ piece) ++ rest) ≡ (ls ++ g.ls) ++ lines (part' ++ rest)
  cut_more bytes part piece ls p q part' cut g rest = grind (arith, append_assoc)

  -- a piece more
  pub Reading-more : (entry : Entry M D) (left left' left'' : Option (List ℕ)) (total n : ℕ) (p q : Point M D) (part part' piece : List ℕ)
      → Reading Session entry left total p part left' → Consumes left' left'' (take n piece) → n ≤ length piece
      → Goes Session p part (take n piece) q part' → list_any is_newline part' ≡ false → Reading Session entry left (total + n) q part' left''
  Reading-more entry left left' left'' total n p q part part' piece r read short g whole = record {
    bytes = r.bytes ++ take n piece;
    read = Consumes-then left left' left'' r.bytes (take n piece) r.read read;
    count = length-append r.bytes (take n piece) ∙ ap (λ v. v + length (take n piece)) r.count ∙ ap (λ v. total + v) (length-take-le n piece short);
    ls = r.ls ++ g.ls;
    cut = cut_more r.bytes part (take n piece) r.ls p q part' r.cut g;
    whole = whole;
    session = g.steps entry r.ls r.session;
  }

  -- the input ended, and the last line is answered
  pub Finishes-last : (entry : Entry M D) (left left' left'' : Option (List ℕ)) (total limit n : ℕ) (p q : Point M D) (part piece : List ℕ)
      → Reading Session entry left total p part left' → total ≤ limit → Consumes left' left'' (take n piece) → n ≡ 0 → IsAtEnd left''
      → Runs Session p (lines part) q → q.owed ≡ no_replies → Finishes Session entry left limit q left''
  Finishes-last entry left left' left'' total limit n p q part piece r within read zero_is ended_is g none = grind (arith, none_more, cut_last)

module _ {M D : Type 0} (Session : Entry M D → List Line → Point M D → Type 0) (Broken : Ended → Entry M D → List Line → List ℕ → Point M D → Type 0) where
  -- a take failed: the line that is not ended is left as it was
  pub Stops-source : (entry : Entry M D) (left left' left'' : Option (List ℕ)) (total limit batch most : ℕ) (p : Point M D) (part : List ℕ)
      → Reading Session entry left total p part left' → total ≤ limit → limit ≤ most → Keeps left' left''
      → ((ls : List Line) → Session entry ls p → (put : List ℕ) × Broken ended.Source entry ls put p × (length ls < answered put + batch))
      → Stops Broken ended.Source entry left limit batch most p left''
  Stops-source entry left left' left'' total limit batch most p part r within small kept off =
      let short : length r.bytes ≤ limit = let e = r.count in omega arith in
      let o : (put : List ℕ) × Broken ended.Source entry r.ls put p × (length r.ls < answered put + batch) = off r.ls r.session in record {
        bytes = r.bytes;
        ls = r.ls;
        read = Consumes-kept left left' left'' r.bytes r.read kept;
        size = short;
        bound = omega arith;
        came = came_first r.bytes r.ls (lines (part ++ [])) (r.cut []);
        whole = inl (ended_lines-most r.bytes part r.ls r.cut);
        will = λ rest here. (lines (part ++ rest), r.cut rest);
        put = o.0;
        broken = o.1;
        few = let few = o.2 in omega (arith, ap (λ v. length (ended_lines v)) (take_all limit r.bytes short), ended_lines-exact r.bytes part r.ls r.cut r.whole);
        open_batch = o.2;
      }

  -- a byte too many came: the lines up to the limit are stepped
  pub Stops-too_long : (entry : Entry M D) (left left' left'' : Option (List ℕ)) (total limit batch most n : ℕ) (p q : Point M D) (part part' piece : List ℕ)
      → Reading Session entry left total p part left' → total ≤ limit → limit + length piece ≤ most → Consumes left' left'' (take n piece) → n ≤ length piece → limit - total < n
      → Goes Session p part (take (limit - total) piece) q part' → list_any is_newline part' ≡ false
      → ((ls : List Line) → Session entry ls q → (put : List ℕ) × Broken ended.TooLong entry ls put q × (length ls < answered put + batch))
      → Stops Broken ended.TooLong entry left limit batch most q left''
  Stops-too_long entry left left' left'' total limit batch most n p q part part' piece r within small read short more g whole off =
      let all : length (r.bytes ++ take n piece) ≡ total + n = length-append r.bytes (take n piece) ∙ ap (λ v. v + length (take n piece)) r.count ∙ ap (λ v. total + v) (length-take-le n piece short) in
      let sum : limit ≡ length r.bytes + (limit - total) = let e = r.count in omega arith in
      let front : take limit (r.bytes ++ take n piece) ≡ r.bytes ++ take (limit - total) piece = grind (arith, take-append-add, front_of) in
      let cut : (rest : List ℕ) → lines ((r.bytes ++ take (limit - total) piece) ++ rest) ≡ (r.ls ++ g.ls) ++ lines (part' ++ rest) =
      cut_more Session r.bytes part (take (limit - total) piece) r.ls p q part' r.cut g in
      let parts : r.bytes ++ take n piece ≡ (r.bytes ++ take (limit - total) piece) ++ drop (limit - total) (take n piece) =
      grind (arith, front_and_back, append_assoc) in
      let later : (rest : List ℕ) → lines ((r.bytes ++ take n piece) ++ rest) ≡ (r.ls ++ g.ls) ++ lines (part' ++ (drop (limit - total) (take n piece) ++ rest)) = λ rest.
      grind (arith, append_assoc) in
      let o : (put : List ℕ) × Broken ended.TooLong entry (r.ls ++ g.ls) put q × (length (r.ls ++ g.ls) < answered put + batch) = off (r.ls ++ g.ls) (g.steps entry r.ls r.session) in record {
        bytes = r.bytes ++ take n piece;
        ls = r.ls ++ g.ls;
        read = Consumes-then left left' left'' r.bytes (take n piece) r.read read;
        size = omega arith;
        bound = omega arith;
        came = came_first (r.bytes ++ take n piece) (r.ls ++ g.ls) (lines (part' ++ (drop (limit - total) (take n piece) ++ []))) (later []);
        whole = inl (ended_lines-most (r.bytes ++ take n piece) (part' ++ drop (limit - total) (take n piece)) (r.ls ++ g.ls)
            (λ rest. later rest ∙ ap (λ v. (r.ls ++ g.ls) ++ lines v) (sym (append_assoc part' (drop (limit - total) (take n piece)) rest))));
        will = λ rest here. (lines (part' ++ (drop (limit - total) (take n piece) ++ rest)), later rest);
        put = o.0;
        broken = o.1;
        few = let few = o.2 in omega (arith, ap (λ v. length (ended_lines v)) front, ended_lines-exact (r.bytes ++ take (limit - total) piece) part' (r.ls ++ g.ls) cut whole);
        open_batch = o.2;
      }

  -- a line within a piece ended the session
  pub Stops-bytes : (e : Ended) (entry : Entry M D) (left left' left'' : Option (List ℕ)) (total limit batch most n w : ℕ) (p q : Point M D) (part piece : List ℕ)
      → Reading Session entry left total p part left' → total ≤ limit → limit + length piece ≤ most → Consumes left' left'' (take n piece) → n ≤ length piece → w ≤ n
      → IsInside e → Breaks Session Broken e p part (take w piece) q → Stops Broken e entry left limit batch most q left''
  Stops-bytes e entry left left' left'' total limit batch most n w p q part piece r within small read short front inside h =
      let all : length (r.bytes ++ take n piece) ≡ total + n = length-append r.bytes (take n piece) ∙ ap (λ v. v + length (take n piece)) r.count ∙ ap (λ v. total + v) (length-take-le n piece short) in
      let b : Breaks Session Broken e p part (take n piece) q =
      subst (λ (v : List ℕ). Breaks Session Broken e p part v q) (front_and_back n w piece front) (Breaks-more Session Broken e p part (take w piece) (drop w (take n piece)) q h) in
      let cut : (rest : List ℕ) → lines ((r.bytes ++ take n piece) ++ rest) ≡ (r.ls ++ b.ls) ++ lines (b.behind ++ rest) =
      λ rest. ap (λ v. lines v) (append_assoc r.bytes (take n piece) rest) ∙ r.cut (take n piece ++ rest) ∙ ap (λ v. r.ls ++ v) (b.cuts rest) ∙ sym (append_assoc r.ls b.ls (lines (b.behind ++ rest))) in
      let o : (put : List ℕ) × Broken e entry (r.ls ++ b.ls) put q = b.halts entry r.ls r.session in record {
        bytes = r.bytes ++ take n piece;
        ls = r.ls ++ b.ls;
        read = Consumes-then left left' left'' r.bytes (take n piece) r.read read;
        size = inside_size e limit (length (r.bytes ++ take n piece)) inside;
        bound = omega arith;
        came = came_first (r.bytes ++ take n piece) (r.ls ++ b.ls) (lines (b.behind ++ [])) (cut []);
        whole = inl (ended_lines-most (r.bytes ++ take n piece) b.behind (r.ls ++ b.ls) cut);
        will = λ rest here. (lines (b.behind ++ rest), cut rest);
        put = o.0;
        broken = o.1;
        few = inside_few e (length (ended_lines (take limit (r.bytes ++ take n piece)))) (answered o.0) batch inside;
        open_batch = inside_few e (length (r.ls ++ b.ls)) (answered o.0) batch inside;
      }

  -- the input ended, and the last batch ended the session
  pub Stops-last : (e : Ended) (entry : Entry M D) (left left' left'' : Option (List ℕ)) (total limit batch most n : ℕ) (p q : Point M D) (part piece : List ℕ)
      → Reading Session entry left total p part left' → total ≤ limit → limit ≤ most → Consumes left' left'' (take n piece) → n ≡ 0 → IsAtEnd left''
      → IsInside e → Halts Session Broken e p (lines part) q → Stops Broken e entry left limit batch most q left''
  Stops-last e entry left left' left'' total limit batch most n p q part piece r within small read zero_is ended_is inside h =
      let o : (put : List ℕ) × Broken e entry (r.ls ++ lines part) put q = h entry r.ls r.session in
      let cut : lines r.bytes ≡ r.ls ++ lines part = cut_last r.bytes part r.ls r.cut in (grind (arith, none_more, inside_size, append-nil, some_nil, inside_few))
