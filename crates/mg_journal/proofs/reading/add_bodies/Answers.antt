use Rattle.{mg_disk.specs.Disk.{Image, block_at}, mg_journal.proofs.Bodies.{bodies_are-fit, home-place, home-unfit, is_home, places_from-last}}
use Rattle.mg_journal.{proofs.{Bodies.too_many-unfit, Tables.{last-more, takes-none}}, specs.{Newest.HasLast, Places.{IsPlace, places_from}}}
use Rattle.{mg_model.specs.{Bytes.number_at, Layout.{segment_body, segment_index}, Replay.{body_count, home_of}}, std.proofs.Common.{◌≡◌, ◌+◌, ◌*◌}}
use Rattle.std.proofs.{Common.{◌++◌, ◌∷◌, [], ℕ, suc, List, All, append_assoc, ap, arith, subst, sym, ◌∙◌}, lemmas.List.Elements.All-push}
use Rattle.mg_journal.proofs.reading.add_bodies.Goals as goal

one_more : (items : List (ℕ × ℕ)) (image : Image) (s k home body : ℕ) → home ≡ home_of image s k → body ≡ segment_body s k → (items ++ places_from image s 0 k) ++ (home, body) ∷ [] ≡ items ++ places_from image s 0 (k + 1)
one_more items image s k home body is_home is_body =
    let at : 0 + k ≡ k = omega arith in
    let next : suc k ≡ k + 1 = omega arith in
    append_assoc items (places_from image s 0 k) ((home, body) ∷ [])
    ∙ ap (λ h. items ++ (places_from image s 0 k ++ (h, body) ∷ [])) is_home
    ∙ ap (λ b. items ++ (places_from image s 0 k ++ (home_of image s k, b) ∷ [])) is_body
    ∙ ap (λ n. items ++ (places_from image s 0 k ++ (home_of image s n, segment_body s n) ∷ [])) (sym at)
    ∙ ap (λ p. items ++ p) (sym (places_from-last image s 0 k))
    ∙ ap (λ n. items ++ places_from image s 0 n) next

pub returns-then-count-gt-BODY_LIMIT-clause-fits : goal.returns-then-count-gt-BODY_LIMIT-clause-fits
returns-then-count-gt-BODY_LIMIT-clause-fits c image is = too_many-unfit c.args.total image c.args.segment (let many = c.if-count-gt-BODY_LIMIT.true in let n = ap (λ b. number_at b 0) is in omega arith)

pub returns-then-not-is_home-clause-fits : goal.returns-then-not-is_home-clause-fits
returns-then-not-is_home-clause-fits c image is =
    let k = c.loop-k.k in
    let n = ap (λ b. number_at b 0) is in
    let home : c.number_at-home.result ≡ home_of image c.args.segment k = c.number_at-home.ensures ∙ ap (λ b. number_at b (8 + 8 * k)) (sym is) in
    home-unfit c.args.total image c.args.segment k (let below = c.loop-k-test.true in omega arith)
    (ap (is_home c.args.total) (sym home) ∙ sym c.is_home.ensures ∙ c.if-not-is_home.true)

pub loop-k-init : goal.loop-k-init
loop-k-init c = grind (arith, takes-none)

pub loop-k-preserved : goal.loop-k-preserved
loop-k-preserved c =
    let k = c.loop-k.k in
    let s = c.args.segment in
    let inv = c.loop-k.invariant in
    let home = c.number_at-home.result in
    let body = c.index_of-first.result + 1 + k in
    let first = c.index_of-first.ensures in
    let segment = c.requires.segment in
    let count = c.if-count-gt-BODY_LIMIT.false in
    let below = c.loop-k-test.true in
    let end = c.loop-k.auto.k-end in
    let place = home-place c.args.total home body (sym c.is_home.ensures ∙ c.if-not-is_home.false) (omega arith) in
    let more : (image : Image) → block_at image (segment_index s) ≡ c.args.index.now → (items : List (ℕ × ℕ)) → (items ++ places_from image s 0 k) ++ (home, body) ∷ [] ≡ items ++ places_from image s 0 (k + 1) =
    λ image is items. one_more items image s k home body (c.number_at-home.ensures ∙ ap (λ b. number_at b (8 + 8 * k)) (sym is)) (omega arith) in
    record {
      newest = λ image is places last. subst (λ p. HasLast p c.put.new.self) (more image is places) (last-more (places ++ places_from image s 0 k) c.loop-k.table c.put.new.self (home, body) (inv.newest image is places last) c.put.ensures.puts);
      places = λ image is. subst (All (IsPlace c.args.total)) (more image is []) (All-push (IsPlace c.args.total) (places_from image s 0 k) (home, body) (inv.places image is) place);
      fit = λ all. c.put.ensures.fit c.args.total (inv.fit all) place;
      few = omega (arith, c.put.ensures.at_most_one_more, inv.few);
    }

pub returns-clause-fits : goal.returns-clause-fits
returns-clause-fits c image is =
    let n = ap (λ b. number_at b 0) is in
    let few = c.if-count-gt-BODY_LIMIT.false in
    let end : c.loop-k.k ≡ body_count image c.args.segment = let past = c.loop-k-test.false in let last = c.loop-k.auto.k-end in omega arith in
    bodies_are-fit c.args.total image c.args.segment (omega arith) (subst (λ m. All (IsPlace c.args.total) (places_from image c.args.segment 0 m)) end (c.loop-k.invariant.places image is))

pub returns-clause-newest : goal.returns-clause-newest
returns-clause-newest c fits image is = grind (arith)
