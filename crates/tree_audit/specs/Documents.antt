-- The documents of slots, by the digests of their identifiers.
use Rattle.std.specs.Prelude.{◌≡◌, ◌≤◌, ℕ, List}
use Rattle.sha2.specs.Sha256.{sha256}
use Rattle.cell_types.specs.Image.{Image}
use Rattle.cell_types.specs.Layout.{Layout}
use Rattle.volume_meaning.specs.Documents.{Stands}
use Rattle.volume_meaning.specs.Slots.{IsLive}
use Rattle.volume_meaning.specs.declared.limits.TheConstants.{MAX_IDENTIFIER_BYTES}
use Rattle.document_store.specs.Heads.{id_of}
use Rattle.document_store.specs.declared.head.Head.{Head}

-- slot n is live, and the identifier of its document is that of this head
pub record HasHead (g : Layout) (image : Image) (n : ℕ) (h : Head) : Type 0 where
  pub live : IsLive g image n
  pub room : h.id_length ≤ MAX_IDENTIFIER_BYTES
  pub body : List ℕ
  pub stands : Stands g.cells image n (id_of h) body

-- slot n is live, and this is the digest of its document's identifier
pub record HasDigest (g : Layout) (image : Image) (n : ℕ) (digest : List ℕ) : Type 0 where
  pub live : IsLive g image n
  pub id : List ℕ
  pub body : List ℕ
  pub stands : Stands g.cells image n id body
  pub is : digest ≡ sha256 id
