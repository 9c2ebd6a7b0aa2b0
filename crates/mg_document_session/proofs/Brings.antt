-- What `bytes` writes for replies to the loads of a document.
use Rattle.{mg_document.specs.Replies.bytes_told, mg_document_session.{proofs.RepliesTold.comes-back, specs.Headline.{BringsBack, OfInput}}}
use Rattle.mg_document_session.specs.{Headline.{PutsFault, PutsText, became}, declared.words.Command.{Command, TheVariants.Bytes}}
use Rattle.{mg_filter.specs.declared.status.Status.Status, std.proofs.Common.{◌≡◌, List, ℕ, Option, Some, None, Ok, ap, ◌∙◌, subst}}
use Rattle.mg_filter.specs.declared.status.Status.TheVariants as status

bytes-bring : (result : Status) (left left' taken taken' aside aside' : Option (List ℕ)) (Rest Other : Type 0)
    → (result ≡ status.Done → OfInput Bytes left left' (λ input. PutsText Bytes input (became Bytes input) taken taken') × Rest)
    → (result ≡ status.Fault → OfInput Bytes left left' (λ input. PutsFault (became Bytes input) aside aside') × Other)
    → BringsBack result left taken taken'
bytes-bring result None left' taken taken' aside aside' Rest Other done fault = tt
bytes-bring result (Some input) left' taken taken' aside aside' Rest Other done fault =
    λ trip more same.
    let told : bytes_told input ≡ Ok trip.bytes = ap bytes_told same ∙ comes-back trip more in (
      λ is. subst (λ r. PutsFault r aside aside') told (fault is).0.1,
      λ is. (subst (λ r. PutsText Bytes input r taken taken') told (done is).0.1).1,
    )

pub brings-back : (command : Command) (result : Status) (left left' taken taken' aside aside' : Option (List ℕ)) (Rest Other : Type 0) → Bytes ≡ command
    → (result ≡ status.Done → OfInput command left left' (λ input. PutsText command input (became command input) taken taken') × Rest)
    → (result ≡ status.Fault → OfInput command left left' (λ input. PutsFault (became command input) aside aside') × Other)
    → BringsBack result left taken taken'
brings-back command result left left' taken taken' aside aside' Rest Other same =
    subst (λ (command : Command).
    (result ≡ status.Done → OfInput command left left' (λ input. PutsText command input (became command input) taken taken') × Rest)
    → (result ≡ status.Fault → OfInput command left left' (λ input. PutsFault (became command input) aside aside') × Other)
    → BringsBack result left taken taken') same (bytes-bring result left left' taken taken' aside aside' Rest Other)
