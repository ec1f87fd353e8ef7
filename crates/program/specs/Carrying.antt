-- What the program does with its words.
use Rattle.std.specs.Prelude.{◌≡◌, ◌≢◌, ℕ, List, [], ◌∷◌, codes, Option, Result, Err}
use Rattle.host_files.specs.File.{FileState}
use Rattle.program_host.specs.declared.fault.Fault.{Fault}
use Rattle.program_host.specs.declared.fault.Fault.TheVariants.{Usage}
use Rattle.program_host.specs.declared.file_number.FileNumber.{FileNumber}
use Rattle.program.specs.Asking.{IsHyphened, IsOfCopy}
use Rattle.program.specs.InMemory.{WorksInMemory}
use Rattle.program.specs.OneFile.{WorksOver, World}
use Rattle.program.specs.TwoFiles.{CopiesBy}

-- What the program does, by its first word, the image, and the words behind it.
pub data WorksByWords {H F : Type 0} (Opened : H → List ℕ → Option F → H → Type 0)
    (Numbered : H → List ℕ → Option FileNumber → H → Type 0) (Held : H → F → F → F → F → H → Type 0)
    (state : F → FileState) (words : List (List ℕ)) (old new : World H) (result : Result Unit Fault) : Type 0 where
  -- there are no words, and nothing is done
  no_words : words ≡ [] → result ≡ Err Usage → new ≡ old → WorksByWords Opened Numbered Held state words old new result
  -- the image begins with a hyphen, and is another word, and nothing is done
  no_image : (image : List ℕ) (rest : List (List ℕ)) → words ≡ image ∷ rest → ¬ IsOfCopy rest → IsHyphened image
      → image ≢ codes "-" → result ≡ Err Usage → new ≡ old → WorksByWords Opened Numbered Held state words old new result
  -- the image is a hyphen: the command has one blank cell in memory
  in_memory : (rest : List (List ℕ)) → words ≡ codes "-" ∷ rest → ¬ IsOfCopy rest → new.host ≡ old.host
      → WorksInMemory rest old.source new.source old.sink new.sink result
      → WorksByWords Opened Numbered Held state words old new result
  -- the image is a path: the command has the file to which it leads
  on_file : (image : List ℕ) (rest : List (List ℕ)) → words ≡ image ∷ rest → ¬ IsOfCopy rest → ¬ IsHyphened image
      → WorksOver Opened state image rest old new result → WorksByWords Opened Numbered Held state words old new result
  -- a copy has two images
  on_two_files : (image : List ℕ) (rest : List (List ℕ)) → words ≡ image ∷ rest → IsOfCopy rest
      → new.source ≡ old.source → CopiesBy Opened Numbered Held state words old.host new.host old.sink new.sink result
      → WorksByWords Opened Numbered Held state words old new result
