pub mod GuidTable
