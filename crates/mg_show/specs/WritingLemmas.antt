-- Lemmas on text that is put through a writer: one text behind another, a text behind reads, and the last of a list's texts.
use Rattle.std.proofs.Common.{◌≡◌, ℕ, ◌+◌, ◌<◌, ◌≤◌, List, [], ◌++◌, Option, length, get_or, take, ap, sym, refl, inl}
use Rattle.std.proofs.{Common.{inr, ⊎_elim, ◌∙◌, append_assoc, append-nil, subst}, lemmas.List.flat_map_more}
use Rattle.std.{proofs.lemmas.List.{take_all, take_more}, specs.{List.{HoldsAt, flat_map}, Option.ForSome}}
use Rattle.std.specs.{Option.option_map_or, Prelude.{◌⊎◌, IsTrue, is_some, Some, None}}
use Rattle.{mg_check.specs.{ReadRuns.{only_none, only_then, same_contents}, Reads.contents}, mg_disk.specs.Disk.Image}
use Rattle.{mg_disk.specs.{Reads.OnlyRead, Stops.{CountGoes, CountRose}}, mg_faults.specs.Faults.count_none}
use Rattle.{mg_faults.specs.Faults.{count_then, rose_then, then_rose}, mg_io.specs.Known.{Appends-none, Appends-then}}
use Rattle.{mg_io.specs.Known.{AppendsPrefix, AppendsPrefix-longer, AppendsPrefix-none}, mg_model.specs.State.ObjectRow}
use Rattle.mg_show.specs.Writing.{Adds, Held, Puts, PutsOf, ReadFails, Reads, Writes}
use Rattle.mg_show.specs.declared.faults.ShowFault.{ShowFault}
use Rattle.mg_disk.specs.declared.disk.Disk as disks
use Rattle.mg_io.specs.declared.traits.Sink as sinks
use Rattle.mg_show.specs.declared.faults.ShowFault.TheVariants as fault

Adds-none : (a : Option (List ℕ)) (w : List ℕ) → Adds a a w w []
Adds-none a w = record { put = []; took = Appends-none a; all = sym (append-nil w) }

Adds-then : (a b c : Option (List ℕ)) (w v u p q : List ℕ) → Adds a b w v p → Adds b c v u q → Adds a c w u (p ++ q)
Adds-then a b c w v u p q first second = record {
  put = first.put ++ second.put;
  took = Appends-then a b c first.put second.put first.took second.took;
  all = append_assoc first.put second.put u
      ∙ ap (λ x. first.put ++ x) second.all
      ∙ sym (append_assoc first.put v q)
      ∙ ap (λ x. x ++ q) first.all
      ∙ append_assoc w p q;
}

-- a failure behind a text
Adds-fails : (a b c : Option (List ℕ)) (w v p q : List ℕ) → Adds a b w v p → AppendsPrefix b c (v ++ q) → AppendsPrefix a c (w ++ (p ++ q))
Adds-fails a b c w v p q first (put, more, parts, h) = (
  first.put ++ put,
  more,
  append_assoc first.put put more
      ∙ ap (λ x. first.put ++ x) parts
      ∙ sym (append_assoc first.put v q)
      ∙ ap (λ x. x ++ q) first.all
      ∙ append_assoc w p q,
  Appends-then a b c first.put put first.took h,
)

-- something failed, or nothing did
by_fault : (fault : Option ShowFault) → (fault ≡ None) ⊎ IsTrue (is_some fault)
by_fault None = inl refl
by_fault (Some f) = inr refl

pub not_both : (fault : Option ShowFault) → fault ≡ None → IsTrue (is_some fault) → ⊥
not_both None e h = absurd (cc)
not_both (Some f) e h = absurd (cc)

some_is : (fault : Option ShowFault) (f : ShowFault) → fault ≡ Some f → IsTrue (is_some fault)
some_is None f e = absurd (cc)
some_is (Some g) f e = refl

apart : (f : Option ShowFault) → f ≡ Some fault.Disk → f ≡ Some fault.Sink → ⊥
apart f a b = cc

module _ {K : Type 0} (to : sinks.Ghosts K) where
  -- no text
  pub writes_none : (s : K) (o : Held) → Writes to [] s s o o
  writes_none s o = record {
    stays = λ some. (refl, refl);
    adds = λ none. Adds-none (to.taken s) o.waiting;
    prefix = λ none. AppendsPrefix-none (to.taken s) (o.waiting ++ []);
    goes_on = count_none (to.faults s) (to.is_spent s);
    rose = λ is. inl is;
  }

  pub puts_none : (s : K) (o : Held) → Puts to [] s s o o
  puts_none s o = record { writes = writes_none s o; not_read = λ is. is }

  -- any text, where something had failed
  writes_any : (text : List ℕ) (s : K) (o o' : Held) → (IsTrue (is_some o.fault) → o' ≡ o) → IsTrue (is_some o'.fault) → (o'.fault ≡ Some fault.Sink → o.fault ≡ Some fault.Sink) → Writes to text s s o o'
  writes_any text s o o' same some before = record {
    stays = λ was. (refl, same was);
    adds = λ none. absurd (not_both o'.fault none some);
    prefix = λ none. AppendsPrefix-none (to.taken s) (o.waiting ++ text);
    goes_on = count_none (to.faults s) (to.is_spent s);
    rose = λ is. inl (before is);
  }

  -- one text behind another
  pub writes_then : {p q : List ℕ} {s s' s'' : K} {o o' o'' : Held} → Writes to p s s' o o' → Writes to q s' s'' o' o'' → Writes to (p ++ q) s s'' o o''
  writes_then {p} {q} {s} {s'} {s''} {o} {o'} {o''} first second = record {
    stays = λ some.
        let one = first.stays some in
        let two = second.stays (subst (λ (h : Held). IsTrue (is_some h.fault)) (sym one.1) some) in
        (two.0 ∙ one.0, two.1 ∙ one.1);
    adds = λ none.
        Adds-then (to.taken s) (to.taken s') (to.taken s'') o.waiting o'.waiting o''.waiting p q
        (first.adds (⊎_elim (λ (e : o'.fault ≡ None). e) (λ some. absurd (not_both o'.fault (sym (ap (λ (h : Held). h.fault) (second.stays some).1) ∙ none) some)) (by_fault o'.fault))) (second.adds none);
    prefix = λ none.
        ⊎_elim (λ (e : o'.fault ≡ None). Adds-fails (to.taken s) (to.taken s') (to.taken s'') o.waiting o'.waiting p q (first.adds e) (second.prefix e))
        (λ some.
        subst (λ (k : K). AppendsPrefix (to.taken s) (to.taken k) (o.waiting ++ (p ++ q))) (sym (second.stays some).0)
        (subst (λ t. AppendsPrefix (to.taken s) (to.taken s') t) (append_assoc o.waiting p q) (AppendsPrefix-longer (to.taken s) (to.taken s') (o.waiting ++ p) q (first.prefix none))))
        (by_fault o'.fault);
    goes_on = count_then (to.faults s) (to.faults s') (to.faults s'') (to.is_spent s) (to.is_spent s') (to.is_spent s'') first.goes_on second.goes_on;
    rose = λ is.
        ⊎_elim (λ before. ⊎_elim (λ e. inl e) (λ rose. inr (rose_then (to.faults s) (to.faults s') (to.faults s'') (to.is_spent s') (to.is_spent s'') rose second.goes_on)) (first.rose before))
        (λ rose. inr (then_rose (to.faults s) (to.faults s') (to.faults s'') (to.is_spent s) (to.is_spent s') (to.is_spent s'') first.goes_on rose))
        (second.rose is);
  }

  pub puts_then : {p q : List ℕ} {s s' s'' : K} {o o' o'' : Held} → Puts to p s s' o o' → Puts to q s' s'' o' o'' → Puts to (p ++ q) s s'' o o''
  puts_then first second = record { writes = writes_then first.writes second.writes; not_read = λ is. first.not_read (second.not_read is) }

  -- the same text in other words
  pub puts_same : {p q : List ℕ} {s s' : K} {o o' : Held} → p ≡ q → Puts to p s s' o o' → Puts to q s s' o o'
  puts_same {p} {q} {s} {s'} {o} {o'} e puts = subst (λ t. Puts to t s s' o o') e puts

  -- text that waits behind what waited
  pub puts_kept : (text : List ℕ) (s s' : K) (o m : Held) → o.fault ≡ None → Puts to [] s s' o m → Puts to text s s' o (record m { waiting = m.waiting ++ text })
  puts_kept text s s' o m none first = record {
    writes = record {
      stays = λ some. absurd (not_both o.fault none some);
      adds = λ e.
          let adds = first.writes.adds e in
          record {
            put = adds.put;
            took = adds.took;
            all = sym (append_assoc adds.put m.waiting text) ∙ ap (λ x. x ++ text) (adds.all ∙ append-nil o.waiting);
          };
      prefix = λ e.
          subst (λ t. AppendsPrefix (to.taken s) (to.taken s') (t ++ text)) (append-nil o.waiting) (AppendsPrefix-longer (to.taken s) (to.taken s') (o.waiting ++ []) text (first.writes.prefix e));
      goes_on = first.writes.goes_on;
      rose = first.writes.rose;
    };
    not_read = first.not_read;
  }

-- what a list's elements give, one element more
pub flat_more : {A B : Type 0} (f : A → List B) (xs : List A) (i : ℕ) (d : A) → i < length xs → flat_map f (take i xs) ++ f (get_or xs i d) ≡ flat_map f (take (i + 1) xs)
flat_more f xs i d h = flat_map_more f [] (take i xs) (get_or xs i d) ∙ sym (ap (flat_map f) (take_more xs i d h))

-- the text of an object more
pub objects_more : (f : ObjectRow → List ℕ) (objects : List (ℕ × ObjectRow)) (i : ℕ) (row : ObjectRow) → i < length objects → HoldsAt (λ (o : ℕ × ObjectRow). row ≡ o.1) objects i
    → flat_map (λ (o : ℕ × ObjectRow). f o.1) (take i objects) ++ f row ≡ flat_map (λ (o : ℕ × ObjectRow). f o.1) (take (i + 1) objects)
objects_more f objects i row below is =
    ap (λ (r : ObjectRow). flat_map (λ (o : ℕ × ObjectRow). f o.1) (take i objects) ++ f r) (is (0, row)) ∙ flat_more (λ (o : ℕ × ObjectRow). f o.1) objects i (0, row) below

pub puts_more : {A K : Type 0} (to : sinks.Ghosts K) (f : A → List ℕ) (xs : List A) (i : ℕ) (x : A) {s s' s'' : K} {o o' o'' : Held}
    → i < length xs → x ≡ get_or xs i x → Puts to (flat_map f (take i xs)) s s' o o' → Puts to (f x) s' s'' o' o'' → Puts to (flat_map f (take (i + 1) xs)) s s'' o o''
puts_more to f xs i x {s} {s'} {s''} {o} {o'} {o''} h is first second =
    puts_same to (flat_more f xs i x h) (puts_then to first (subst (λ y. Puts to (f y) s' s'' o' o'') is second))

-- all of a list, behind its last element
pub puts_all : {A K : Type 0} (to : sinks.Ghosts K) (text : List A → List ℕ) (xs : List A) (i : ℕ) {s s' : K} {o o' : Held}
    → length xs ≤ i → Puts to (text (take i xs)) s s' o o' → Puts to (text xs) s s' o o'
puts_all to text xs i end = puts_same to (ap text (take_all i xs end))

-- Text of what a disk holds

module _ {D : Type 0} (facts : disks.Ghosts D) where
  pub reads_none : (d : D) (o : Held) → (facts.time d).has_been (facts.time d).moment → Reads facts d d o o
  reads_none d o been = record { reads = only_none facts d been; ends = inl refl }

  pub reads_then : {d d' d'' : D} {o o' o'' : Held} → Reads facts d d' o o' → Reads facts d' d'' o' o'' → Reads facts d d'' o o''
  reads_then {d} {d'} {d''} {o} {o'} {o''} first second = record {
    reads = only_then facts d d' d'' first.reads second.reads;
    ends =
        ⊎_elim (λ (same : o' ≡ o).
        ⊎_elim (λ (again : o'' ≡ o'). inl (again ∙ same))
        (λ (now : ReadFails facts d' d'' o' o''). inr (record {
          none = ap (λ (h : Held). h.fault) (sym same) ∙ now.none;
          failed = now.failed;
          rose = then_rose (facts.faults d) (facts.faults d') (facts.faults d'') (facts.is_spent d) (facts.is_spent d') (facts.is_spent d'') first.reads.count now.rose;
        })) second.ends)
        (λ (was : ReadFails facts d d' o o').
        ⊎_elim (λ (again : o'' ≡ o'). inr (record {
          none = was.none;
          failed = ap (λ (h : Held). h.fault) again ∙ was.failed;
          rose = rose_then (facts.faults d) (facts.faults d') (facts.faults d'') (facts.is_spent d') (facts.is_spent d'') was.rose second.reads.count;
        }))
        (λ (now : ReadFails facts d' d'' o' o''). absurd (not_both o'.fault now.none (some_is o'.fault fault.Disk was.failed))) second.ends)
        first.ends;
  }

  -- nothing had failed, where nothing has
  pub reads_kept : {d d' : D} {o o' : Held} → Reads facts d d' o o' → o'.fault ≡ None → o.fault ≡ None
  reads_kept {d} {d'} {o} {o'} read none = ⊎_elim (λ (same : o' ≡ o). ap (λ (h : Held). h.fault) (sym same) ∙ none) (λ (failed : ReadFails facts d d' o o'). failed.none) read.ends

module _ {D K : Type 0} (facts : disks.Ghosts D) (to : sinks.Ghosts K) {of : Image → Option Image} where
  -- text that needs no disk
  pub of_put : {text : List ℕ} {d : D} {s s' : K} {o o' : Held} → (facts.time d).has_been (facts.time d).moment → Puts to text s s' o o' → PutsOf facts to of (λ r. text) d d s s' o o'
  of_put {text} {d} {s} {s'} {o} {o'} been puts = record {
    told = text;
    is = λ r told. refl;
    writes = puts.writes;
    reads = only_none facts d been;
    disk_rose = λ is. inl (puts.not_read is);
  }

  -- one text behind another
  pub of_then : {a b : Image → List ℕ} {d d' d'' : D} {s s' s'' : K} {o o' o'' : Held} → PutsOf facts to of a d d' s s' o o' → PutsOf facts to of b d' d'' s' s'' o' o'' → PutsOf facts to of (λ r. a r ++ b r) d d'' s s'' o o''
  of_then {a} {b} {d} {d'} {d''} {s} {s'} {s''} {o} {o'} {o''} first second = record {
    told = first.told ++ second.told;
    is = λ r told. ap (λ t. t ++ second.told) (first.is r told) ∙ ap (λ t. a r ++ t) (second.is r (same_contents facts of d d' first.reads ∙ told));
    writes = writes_then to first.writes second.writes;
    reads = only_then facts d d' d'' first.reads second.reads;
    disk_rose = λ is.
        ⊎_elim (λ before. ⊎_elim (λ e. inl e) (λ rose. inr (rose_then (facts.faults d) (facts.faults d') (facts.faults d'') (facts.is_spent d') (facts.is_spent d'') rose second.reads.count)) (first.disk_rose before))
        (λ rose. inr (then_rose (facts.faults d) (facts.faults d') (facts.faults d'') (facts.is_spent d) (facts.is_spent d') (facts.is_spent d'') first.reads.count rose))
        (second.disk_rose is);
  }

  -- the same text in other words
  pub of_same : {a b : Image → List ℕ} {d d' : D} {s s' : K} {o o' : Held} → ((r : Image) → a r ≡ b r) → PutsOf facts to of a d d' s s' o o' → PutsOf facts to of b d d' s s' o o'
  of_same e puts = record { told = puts.told; is = λ r told. puts.is r told ∙ e r; writes = puts.writes; reads = puts.reads; disk_rose = puts.disk_rose }

  pub of_all : {A : Type 0} (text : Image → List A → List ℕ) (xs : List A) (i : ℕ) {d d' : D} {s s' : K} {o o' : Held}
      → length xs ≤ i → PutsOf facts to of (λ r. text r (take i xs)) d d' s s' o o' → PutsOf facts to of (λ r. text r xs) d d' s s' o o'
  of_all text xs i end = of_same (λ r. ap (text r) (take_all i xs end))

  -- a text after reads, which is that of the contents unless one failed
  after_reads : {text : List ℕ} {whole : Image → List ℕ} {d d' d'' : D} {s s' : K} {o o' o'' : Held} → Reads facts d d' o o' → Writes to text s s' o' o'' → OnlyRead facts d d'' → CountGoes facts d' d''
      → (o''.fault ≡ Some fault.Disk → (o'.fault ≡ Some fault.Disk) ⊎ CountRose facts d' d'') → (o'.fault ≡ None → ForSome (contents facts of d) (λ r. text ≡ whole r)) → PutsOf facts to of whole d d'' s s' o o''
  after_reads {text} {whole} {d} {d'} {d''} {s} {s'} {o} {o'} {o''} read writes all goes rose is = by_ends read.ends
    where
      -- the text of the contents where they are told
      any : List ℕ
      any = option_map_or whole (contents facts of d) []

      any_is : ForSome (contents facts of d) (λ r. any ≡ whole r)
      any_is r told = ap (λ c. option_map_or whole c []) told

      stands : IsTrue (is_some o'.fault) → (IsTrue (is_some o.fault) → o' ≡ o) → (o'.fault ≡ Some fault.Sink → o.fault ≡ Some fault.Sink) → (o'.fault ≡ Some fault.Disk → (o.fault ≡ Some fault.Disk) ⊎ CountRose facts d d') → PutsOf facts to of whole d d'' s s' o o''
      stands some same sink disk =
          let kept = writes.stays some in
          record {
            told = any;
            is = any_is;
            writes = subst (λ (k : K). Writes to any s k o o'') (sym kept.0) (subst (λ (h : Held). Writes to any s s o h) (sym kept.1) (writes_any to any s o o' same some sink));
            reads = all;
            disk_rose = λ e.
                ⊎_elim (λ before. inl before) (λ rose. inr (rose_then (facts.faults d) (facts.faults d') (facts.faults d'') (facts.is_spent d') (facts.is_spent d'') rose goes)) (disk (ap (λ (h : Held). h.fault) (sym kept.1) ∙ e));
          }

      by_ends : (o' ≡ o) ⊎ ReadFails facts d d' o o' → PutsOf facts to of whole d d'' s s' o o''
      by_ends (inl same) =
          ⊎_elim
          (λ (none : o'.fault ≡ None). record {
            told = text;
            is = is none;
            writes = subst (λ (h : Held). Writes to text s s' h o'') same writes;
            reads = all;
            disk_rose = λ e.
                ⊎_elim (λ before. inl (ap (λ (h : Held). h.fault) (sym same) ∙ before)) (λ rose. inr (then_rose (facts.faults d) (facts.faults d') (facts.faults d'') (facts.is_spent d) (facts.is_spent d') (facts.is_spent d'') read.reads.count rose)) (rose e);
          })
          (λ some. stands some (λ was. same) (λ e. ap (λ (h : Held). h.fault) (sym same) ∙ e) (λ e. inl (ap (λ (h : Held). h.fault) (sym same) ∙ e)))
          (by_fault o'.fault)
      by_ends (inr fails) = stands (some_is o'.fault fault.Disk fails.failed) (λ was. absurd (not_both o.fault fails.none was)) (λ e. absurd (apart o'.fault fails.failed e)) (λ e. inr fails.rose)

  -- one that needs no read
  pub of_behind : {text : List ℕ} {whole : Image → List ℕ} {d d' : D} {s s' : K} {o o' o'' : Held} → Reads facts d d' o o' → Puts to text s s' o' o''
      → (o'.fault ≡ None → ForSome (contents facts of d) (λ r. text ≡ whole r)) → PutsOf facts to of whole d d' s s' o o''
  of_behind {text} {whole} {d} {d'} read puts is = after_reads read puts.writes read.reads (count_none (facts.faults d') (facts.is_spent d')) (λ e. inl (puts.not_read e)) is

  -- one of the contents
  pub of_after : {text whole : Image → List ℕ} {d d' d'' : D} {s s' : K} {o o' o'' : Held} → Reads facts d d' o o' → PutsOf facts to of text d' d'' s s' o' o''
      → (o'.fault ≡ None → ForSome (contents facts of d) (λ r. text r ≡ whole r)) → PutsOf facts to of whole d d'' s s' o o''
  of_after {text} {whole} {d} {d'} {d''} read puts is =
      after_reads read puts.writes (only_then facts d d' d'' read.reads puts.reads) puts.reads.count puts.disk_rose
      (λ none r told. puts.is r (same_contents facts of d d' read.reads ∙ told) ∙ is none r told)
